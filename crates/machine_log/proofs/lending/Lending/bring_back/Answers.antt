use Rattle.std.proofs.Common.{◌∙◌, None, slice_set, sym, ap, subst, arith}
use Rattle.std.specs.Vec.{vec_capacity}
use Rattle.machine_log.specs.Lendings.{IsLending, LendingLog, promised, whole}
use Rattle.machine_log.proofs.Backing.{promise_less}
use Rattle.machine_log.proofs.Changing.{brought_back, found_away, whole_back}
use Rattle.machine_log.proofs.lending.Lending.bring_back.Goals as goal

pub put_core-requires : goal.put_core-requires
put_core-requires c =
    let found = found_away c.self.invariant.0 c.self.view_is c.requires.there c.from.ensures c.index_mut.ensures.value c.in-Some.ensures.value in
    let lent = c.self.invariant.0.away c.args.p c.in-Some.field-0 found.known in
    record { there = found.within; away = lent.away; setting = lent.setting; words = lent.words }

pub overflow_sub-self : goal.overflow_sub-self
overflow_sub-self c =
    let found = found_away c.self.invariant.0 c.self.view_is c.requires.there c.from.ensures c.index_mut.ensures.value c.in-Some.ensures.value in
    let less = promise_less c.self.inside.lent.items c.args.p c.in-Some.field-0 found.known in
    let promises = c.self.invariant.1 in
    omega (arith, less, promises)

pub invariant_of-self-2 : goal.invariant_of-self-2
invariant_of-self-2 c =
    let l = c.self.inside in
    let found = found_away c.self.invariant.0 c.self.view_is c.requires.there c.from.ensures c.index_mut.ensures.value c.in-Some.ensures.value in
    let less = promise_less l.lent.items c.args.p c.in-Some.field-0 found.known in
    let promises = c.self.invariant.1 in
    let kept = brought_back c.self.invariant.0 found c.put_core.new.self c.put_core.ensures.put c.machine_is_well_formed.ensures in
    let capacity_left = ap (λ i. slice_set l.lent.items i None) (sym c.from.ensures) ∙ ap (slice_set l.lent.items c.from.result) (sym c.take.ensures.after) in (
      subst (IsLending l.opening.value c.put_core.new.self l.steps.items (vec_capacity l.steps)) capacity_left kept,
      (omega (arith, less, promises)) ∙ ap promised capacity_left,
    )

pub returns : goal.returns
returns c =
    let l = c.self.inside in
    let found = found_away c.self.invariant.0 c.self.view_is c.requires.there c.from.ensures c.index_mut.ensures.value c.in-Some.ensures.value in
    let capacity_left = ap (λ i. slice_set l.lent.items i None) (sym c.from.ensures) ∙ ap (slice_set l.lent.items c.from.result) (sym c.take.ensures.after) in
    let machine = ap (whole c.put_core.new.self) (sym capacity_left) ∙ whole_back c.self.invariant.0 found c.put_core.new.self c.put_core.ensures.put in
    (λ i. record { log = record { opening = l.opening.value; steps = l.steps.items; machine = machine i }; lent = sym capacity_left i })
    ∙ ap (λ (x : LendingLog). record { log = x.log; lent = slice_set x.lent c.args.p None }) c.self.view_is
