use Rattle.std.proofs.Common.{◌<◌, ◌≤◌, ◌∙◌, length, refl, sym, ap, subst, arith}
use Rattle.std.proofs.lemmas.Bool.{true≢false}
use Rattle.flat_machine.specs.declared.config.Config.{Config}
use Rattle.machine_steps.specs.Machines.{MachineLists}
use Rattle.schedules.specs.Rounds.{round}
use Rattle.schedules.specs.Skips.{AreQuiet, IsNext}
use Rattle.debug_session.specs.Breaks.{MeetsBreak}
use Rattle.debug_session.proofs.Few.{below_64}
use Rattle.debug_session.proofs.Quieting.{moved_more, some_moved}
use Rattle.schedules.proofs.Lemmas.{at_most_one}
use Rattle.debug_session.proofs.Stepping.{ends_at_break, ends_by_fault, goes_on}
use Rattle.debug_session.proofs.sweep.take_round.Goals as goal

pub returns-in_default-clause-some : goal.returns-in_default-clause-some
returns-in_default-clause-some c e =
    let i = c.loop-round.invariant in
    let l = c.loop-round.log.log in
    let rest =
    subst (λ k. AreQuiet l.machine c.loop-round.round.place (length (round k))) i.size
    (subst (λ (m : MachineLists). AreQuiet m c.loop-round.round.place (length (round c.loop-round.round.k))) c.machine-in-loop-round.ensures.machine
    (c.next.ensures.over c.in_default.is)) in
    some_moved (length c.args.log.now.log.steps) c.loop-round.round.place l c.rounds_go_on.ensures c.machine-in-loop-round.ensures.kept.sound rest i.moved

pub returns-then-meets_break-clause-over : goal.returns-then-meets_break-clause-over
returns-then-meets_break-clause-over c e first before =
    let l = c.loop-round.log.log in
    ends_at_break c.args.breaks.now c.args.limit first l c.loop-round.retired (c.loop-round.invariant.under_way first before) c.in-Some.step
    (subst (λ m. MeetsBreak m c.args.breaks.now c.loop-round.retired c.in-Some.step) c.machine-in-loop-round-2.ensures.machine
    (c.if-meets_break.ensures.0 refl))

pub returns-then-is_fault-clause-over : goal.returns-then-is_fault-clause-over
returns-then-is_fault-clause-over c e first before =
    let l = c.loop-round.log.log in
    let step = c.in-Some.step in
    let n = subst (λ m. IsNext m c.loop-round.round.place step c.next.new.self.place) c.machine-in-loop-round.ensures.machine c.in-Some.ensures.next in
    ends_by_fault c.args.breaks.now c.args.limit first l c.step-outcome.new.self.log c.loop-round.retired
    (c.loop-round.invariant.under_way first before) step c.step-outcome.result c.step-outcome.ensures.taken c.step-outcome.ensures.answer
    (c.sweeps_write_nothing.ensures.rounds l.machine.config.k n.place step n.there)
    c.reserved_log_is_well_formed.ensures.replay
    (λ meets. true≢false (sym (c.if-meets_break.ensures.1
    (subst (λ m. MeetsBreak m c.args.breaks.now c.loop-round.retired step) (sym c.machine-in-loop-round-2.ensures.machine) meets))))
    (let there = ap length c.steps.ensures.steps in omega (arith, there, c.loop-round-test.true))
    (c.if-is_fault.ensures.0 refl)

pub loop-round-preserved : goal.loop-round-preserved
loop-round-preserved c =
    let i = c.loop-round.invariant in
    let l = c.loop-round.log.log in
    let new = c.step-outcome.new.self.log in
    let step = c.in-Some.step in
    let taken = c.step-outcome.ensures.taken in
    let config = taken.step.config in
    let n = subst (λ m. IsNext m c.loop-round.round.place step c.next.new.self.place) c.machine-in-loop-round.ensures.machine c.in-Some.ensures.next in
    let kept = c.machine-in-loop-round.ensures.kept in
    let room : length l.steps < c.args.limit = (let there = ap length c.steps.ensures.steps in omega (arith, there, c.loop-round-test.true)) in
    record {
      config = config ∙ i.config;
      capacity_left = c.step-outcome.ensures.capacity_left ∙ i.capacity_left;
      size = c.next.ensures.size ∙ i.size ∙ ap (λ (d : Config). d.k) (sym config);
      few = (let one = at_most_one l.steps new.steps step c.step-outcome.result taken.steps in omega (arith, one, room));
      moved = moved_more (length c.args.log.now.log.steps) c.loop-round.round.place c.next.new.self.place l new step c.step-outcome.result taken n i.moved;
      under_way = λ first before.
          let u = i.under_way first before in
          let stages = subst (λ (d : Config). d.k ≤ 6) (kept.replay.run.config ∙ ap (λ (m : MachineLists). m.config) u.opening) kept.sound.limits.stages in
          goes_on c.args.breaks.now c.args.limit first l new c.loop-round.retired u step c.step-outcome.result taken c.step-outcome.ensures.answer
          (c.sweeps_write_nothing.ensures.rounds l.machine.config.k n.place step n.there)
          c.reserved_log_is_well_formed.ensures.replay
          (λ meets. true≢false (sym (c.if-meets_break.ensures.1
          (subst (λ m. MeetsBreak m c.args.breaks.now c.loop-round.retired step) (sym c.machine-in-loop-round-2.ensures.machine) meets))))
          room
          c.mark_retired.new.retired
          (λ p within. c.mark_retired.ensures p (below_64 first.opening.config.k p stages within))
          (λ fault. true≢false (sym (c.if-is_fault.ensures.1 fault)));
    }
