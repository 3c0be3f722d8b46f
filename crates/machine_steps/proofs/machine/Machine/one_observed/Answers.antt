use Rattle.std.proofs.Common.{◌≡◌, ◌∙◌, ◌+◌, ◌*◌, ◌≤◌, length, sym, ap, subst, arith}
use Rattle.std.proofs.lemmas.Bool.{true≢false}
use Rattle.flat_machine.specs.declared.config.Config.{Config}
use Rattle.steps.specs.declared.step.Step.TheVariants as step
use Rattle.steps.specs.declared.step.Outcome.TheVariants.{Stalled}
use Rattle.steps.specs.Answers.{is_stalled}
use Rattle.machine_steps.specs.Machines.{IsStep}
use Rattle.machine_steps.specs.Draining.{drain_bound}
use Rattle.machine_steps.specs.Whole.{IsSent}
use Rattle.machine_steps.proofs.Noting.{turn_alone, turn_noted}
use Rattle.machine_steps.proofs.Whole.{few_moves, sent_is_short, steps_back, turn_whole}
use Rattle.machine_steps.proofs.machine.Machine.one_observed.Goals as goal

pub returns-then-is_stalled-clause-whole : goal.returns-then-is_stalled-clause-whole
returns-then-is_stalled-clause-whole g c idle =
    turn_whole c.args.self.now c.args.p c.machine_is_well_formed.ensures idle c.apply-outcome.result c.apply-outcome.new.self c.apply-outcome.ensures.step
    c.apply-outcome.ensures.sound (λ issued. true≢false (sym c.if-is_stalled.true ∙ c.is_stalled.ensures ∙ ap is_stalled issued))

pub observe-requires : goal.observe-requires
observe-requires g c = record { room = (2 * c.args.self.now.config.k + 2, subst (g.N.StepObserver.has_room c.args.observer.now) (omega arith) c.requires.room) }

pub drain_within-requires-clause-enough : goal.drain_within-requires-clause-enough
drain_within-requires-clause-enough g c =
    let m = c.args.self.now in
    let sent = c.apply-outcome.new.self in
    let here = ap (λ (f : Config). f.k) c.config.ensures.config in
    let turn = subst (λ o. IsStep m (step.Turn c.args.p) o sent) c.in-Issued.is c.apply-outcome.ensures.step in
    let short =
    sent_is_short m c.args.p sent (record { machine = c.machine_is_well_formed.ensures; idle = c.is_idle.ensures.idle.0 c.if-not-is_idle.false; turn = turn })
    c.apply-outcome.ensures.sound in
    let there = ap (λ (f : Config). f.k) c.apply-outcome.ensures.step.config in
    omega (arith, short, here, there, c.from.ensures)

pub drain_within-requires-clause-few : goal.drain_within-requires-clause-few
drain_within-requires-clause-few g c =
    let m = c.args.self.now in
    let here = ap (λ (f : Config). f.k) c.config.ensures.config in
    subst (λ (f : Config). 2 * c.from.result + 2 ≤ drain_bound f) (sym c.apply-outcome.ensures.step.config)
    (let few = few_moves m.config.k in omega (arith, few, here, c.from.ensures))

pub returns-in_ok-drain_within-in-Issued-clause-few : goal.returns-in_ok-drain_within-in-Issued-clause-few
returns-in_ok-drain_within-in-Issued-clause-few g c idle =
    let m = c.args.self.now in
    let sent = c.apply-outcome.new.self in
    let turn = subst (λ o. IsStep m (step.Turn c.args.p) o sent) c.in-Issued.is c.apply-outcome.ensures.step in
    let is : IsSent m c.args.p sent = record { machine = c.machine_is_well_formed.ensures; idle = idle; turn = turn } in
    let short = sent_is_short m c.args.p sent is c.apply-outcome.ensures.sound in
    let count = ap length (steps_back m c.args.p sent is) in
    let there = ap (λ (f : Config). f.k) c.apply-outcome.ensures.step.config in
    omega (arith, short, count, there)

pub returns-in_default : goal.returns-in_default
returns-in_default g c =
    let m = c.args.self.now in
    let new = c.apply-outcome.new.self in
    let o = c.apply-outcome.result in
    let st = c.apply-outcome.ensures.step in
    let moves : o ≡ Stalled → ⊥ = λ stalls. true≢false (sym (ap is_stalled stalls) ∙ sym c.is_stalled.ensures ∙ c.if-is_stalled.false) in
    record {
      whole = λ idle. turn_whole m c.args.p c.machine_is_well_formed.ensures idle o new st c.apply-outcome.ensures.sound c.in_default.not-Issued;
      observed = λ idle. turn_noted g.N.StepObserver.observed m new c.args.p o c.args.observer.now c.observe.new.self st moves c.in_default.not-Issued
          c.in_ok-observe.ensures.observed;
      few = λ idle. let count = ap length (turn_alone m new c.args.p o st moves c.in_default.not-Issued) in omega (arith, count);
      busy = λ busy. absurd (busy (c.is_idle.ensures.idle.0 c.if-not-is_idle.false));
    }
