use Rattle.std.proofs.Common.{◌+◌, ◌<◌, sym, ◌∙◌, subst}
use Rattle.run_command.specs.CountedMachines.{CountedModel, IsCountedLog}
use Rattle.run_command.proofs.Counting.{after, has_taken, is_after, no_more, one_fits, one_more}
use Rattle.run_command.proofs.counted.CountedMachineStepTaker.step.Goals as goal

pub step_tallied-outcome-requires : goal.step_tallied-outcome-requires
step_tallied-outcome-requires c =
    one_fits c.self.inside.tally c.self.inside.count c.self.invariant
    (subst (λ (x : CountedModel). x.count < 4000000000) (sym c.self.view_is) c.requires.room)

pub returns-then-not-is_stalled-clause-taken : goal.returns-then-not-is_stalled-clause-taken
returns-then-not-is_stalled-clause-taken c before is =
    let i = c.self.inside in
    let old : CountedModel = record { opening = i.opening.value; machine = i.machine; count = i.count; tally = i.tally } in
    let here = subst (λ (x : CountedModel). IsCountedLog x before) (sym c.self.view_is) is in
    let e = c.step_tallied-outcome.ensures in
    let m = c.step_tallied-outcome.new.machine in
    let tally = c.step_tallied-outcome.new.tally in
    let o = c.step_tallied-outcome.result in (
      after old m tally c.args.step o e.step e.stalled e.counted before,
      is_after old m tally c.args.step o e.step e.stalled e.counted (i.count + 1) before here
          (one_more before.steps c.args.step o i.count (sym c.is_stalled.ensures ∙ c.if-not-is_stalled.true) here.count),
      has_taken old m tally c.args.step o e.step e.stalled e.counted before here,
    )

pub returns-else-not-is_stalled-clause-taken : goal.returns-else-not-is_stalled-clause-taken
returns-else-not-is_stalled-clause-taken c before is =
    let i = c.self.inside in
    let old : CountedModel = record { opening = i.opening.value; machine = i.machine; count = i.count; tally = i.tally } in
    let here = subst (λ (x : CountedModel). IsCountedLog x before) (sym c.self.view_is) is in
    let e = c.step_tallied-outcome.ensures in
    let m = c.step_tallied-outcome.new.machine in
    let tally = c.step_tallied-outcome.new.tally in
    let o = c.step_tallied-outcome.result in (
      after old m tally c.args.step o e.step e.stalled e.counted before,
      is_after old m tally c.args.step o e.step e.stalled e.counted i.count before here
          (no_more before.steps c.args.step o i.count (sym c.is_stalled.ensures ∙ c.if-not-is_stalled.false) here.count),
      has_taken old m tally c.args.step o e.step e.stalled e.counted before here,
    )
