use Rattle.std.proofs.Common.{◌∙◌, None, length, slice_set, refl, sym, ap, subst, arith}
use Rattle.std.specs.Prelude.{◌==◌}
use Rattle.std.specs.Vec.{vec_capacity}
use Rattle.machine_steps.specs.Runs.{IsReplay}
use Rattle.machine_theory.specs.Loans.{turns_of}
use Rattle.machine_log.specs.Lendings.{IsBack, IsLending, LendingLog, promised, whole}
use Rattle.machine_log.proofs.Backing.{promise_less}
use Rattle.machine_log.proofs.Catching.{back_answered, back_replay, comes_back, core_words, returned, whole_returned}
use Rattle.machine_log.proofs.Changing.{known_away}
use Rattle.machine_log.proofs.lending.Lending.give_back.Goals as goal

pub put_core-requires : goal.put_core-requires
put_core-requires c =
    let away = known_away c.self.invariant.0 c.self.view_is c.requires.there (c.if-not-is_record.ensures.0 refl) in
    let back = comes_back c.local_turns_catch_up.ensures.turns c.runs_are_joined.ensures.replays c.self.invariant.0 away c.self.view_is c.requires.setting
    (ap (λ n. n == 0) c.core_has_registers.ensures) c.requires.turns c.requires.few in
    let lent = c.self.invariant.0.away c.args.p c.args.lent away.known in
    record { there = away.within; away = lent.away; setting = c.requires.setting ∙ lent.setting; words = core_words back }

pub overflow_sub-self : goal.overflow_sub-self
overflow_sub-self c =
    let away = known_away c.self.invariant.0 c.self.view_is c.requires.there (c.if-not-is_record.ensures.0 refl) in
    let less = promise_less c.self.inside.lent.items c.args.p c.args.lent away.known in
    let promises = c.self.invariant.1 in
    omega (arith, less, promises)

pub enter_turns-requires : goal.enter_turns-requires
enter_turns-requires c =
    let away = known_away c.self.invariant.0 c.self.view_is c.requires.there (c.if-not-is_record.ensures.0 refl) in
    let less = promise_less c.self.inside.lent.items c.args.p c.args.lent away.known in
    let capacity_left = c.self.invariant.0.capacity_left in
    let few = c.requires.few in
    let fits = c.self.inside.steps.ok in
    record { room = omega (arith, less, capacity_left, few, fits) }

pub invariant_of-self : goal.invariant_of-self
invariant_of-self c =
    let l = c.self.inside in
    let away = known_away c.self.invariant.0 c.self.view_is c.requires.there (c.if-not-is_record.ensures.0 refl) in
    let back = comes_back c.local_turns_catch_up.ensures.turns c.runs_are_joined.ensures.replays c.self.invariant.0 away c.self.view_is c.requires.setting
    (ap (λ n. n == 0) c.core_has_registers.ensures) c.requires.turns c.requires.few in
    let less = promise_less l.lent.items c.args.p c.args.lent away.known in
    let promises = c.self.invariant.1 in
    let lent = ap (λ i. slice_set l.lent.items i None) (sym c.from.ensures) ∙ ap (slice_set l.lent.items c.from.result) (sym c.take-kept.ensures.after) in
    let fits = l.steps.ok in (
      subst (IsLending l.opening.value c.put_core.new.self c.enter_turns.new.steps.items (vec_capacity c.enter_turns.new.steps)) lent
          (returned back c.put_core.new.self c.enter_turns.new.steps.items (vec_capacity c.enter_turns.new.steps) c.put_core.ensures.put
          c.machine_is_well_formed.ensures c.enter_turns.ensures.entered c.enter_turns.ensures.capacity (omega (arith, fits))),
      omega (arith, less, promises) ∙ ap promised lent,
    )

pub returns-clause-back : goal.returns-clause-back
returns-clause-back c =
    let l = c.self.inside in
    let away = known_away c.self.invariant.0 c.self.view_is c.requires.there (c.if-not-is_record.ensures.0 refl) in
    let back = comes_back c.local_turns_catch_up.ensures.turns c.runs_are_joined.ensures.replays c.self.invariant.0 away c.self.view_is c.requires.setting
    (ap (λ n. n == 0) c.core_has_registers.ensures) c.requires.turns c.requires.few in
    let lent = ap (slice_set l.lent.items c.from.result) c.take-kept.ensures.after ∙ ap (λ i. slice_set l.lent.items i None) c.from.ensures in
    let machine = ap (whole c.put_core.new.self) lent ∙ whole_returned back c.put_core.new.self c.put_core.ensures.put in
    subst (λ (x : LendingLog). IsBack x c.args.p c.args.core c.args.taken.now (record {
      log = record {
        opening = l.opening.value;
        steps = c.enter_turns.new.steps.items;
        machine = whole c.put_core.new.self (slice_set l.lent.items c.from.result c.take-kept.new.self);
      };
      lent = slice_set l.lent.items c.from.result c.take-kept.new.self;
    })) c.self.view_is (record {
      opening = refl;
      machine = machine;
      steps = c.enter_turns.ensures.entered;
      replay = subst (IsReplay (whole l.machine l.lent.items) (turns_of c.args.p (length c.args.taken.now))) (sym machine) (back_replay back);
      answered = back_answered back;
      lent = lent;
    })
