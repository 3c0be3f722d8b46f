use Rattle.std.proofs.Common.{◌≢◌, ◌*◌, ◌≤◌, ◌∙◌, sym, ap, arith, length}
use Rattle.flat_machine.specs.declared.config.Config.{Config}
use Rattle.machine_steps.specs.Runs.{flat_state}
use Rattle.words_command.proofs.Instructions.{run_retired, run_stopped, one_stops}
use Rattle.words_command.proofs.run.words_run.Goals as goal

pub returns-then-not-has_retired-clause-ran : goal.returns-then-not-has_retired-clause-ran
returns-then-not-has_retired-clause-ran c =
    let i = c.loop-retired.invariant in (
      c.loop-retired.retired,
      i.budget,
      run_stopped (flat_state c.args.log.now.machine) c.loop-retired.log.machine c.take_instruction.new.log.machine c.in-Ok.outcome c.loop-retired.retired
          i.ran c.in-Ok.ensures.taken
          (sym c.has_retired.ensures ∙ c.if-not-has_retired.true),
    )

pub returns-then-not-has_retired-clause-stopped : goal.returns-then-not-has_retired-clause-stopped
returns-then-not-has_retired-clause-stopped c =
    one_stops c.loop-retired.log.machine c.take_instruction.new.log.machine c.runs.ensures.sound c.in-Ok.ensures.sound
    (sym c.runs.ensures.runs ∙ c.loop-retired-test.true) c.in-Ok.outcome c.in-Ok.ensures.taken
    (sym c.has_retired.ensures ∙ c.if-not-has_retired.true)

pub loop-retired-preserved : goal.loop-retired-preserved
loop-retired-preserved c =
    let i = c.loop-retired.invariant in
    let t = c.in-Ok.ensures in
    let taken = t.taken in
    record {
      opening = t.opening ∙ i.opening;
      idle = taken.idle;
      one = ap (λ (f : Config). f.k) taken.replay.run.config ∙ i.one;
      ran = run_retired (flat_state c.args.log.now.machine) c.loop-retired.log.machine c.take_instruction.new.log.machine c.in-Ok.outcome
          c.loop-retired.retired i.ran taken (sym c.has_retired.ensures ∙ c.if-not-has_retired.false);
      budget = (let within : c.loop-retired.retired ≤ 1000000 = i.budget in let other : c.loop-retired.retired ≢ 1000000 = c.if-retired-eq-BUDGET.false in
          omega arith);
      steps = (let few : length c.loop-retired.log.steps ≤ 3 * c.loop-retired.retired = i.steps in let more = t.longer in omega (arith, few, more));
    }
