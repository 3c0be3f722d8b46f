use Rattle.std.proofs.Common.{List, ◌++◌, ◌∙◌, ap, sym, subst}
use Rattle.steps.specs.declared.step.Step.{Step}
use Rattle.machine_steps.specs.Machines.{IsMachine}
use Rattle.machine_steps.specs.Runs.{IsReplay}
use Rattle.machine_steps.specs.Draining.{drain_steps}
use Rattle.trace_commands.proofs.draining.drained_steps.Goals as goal

pub returns-clause-home : goal.returns-clause-home
returns-clause-home c =
    let opening = c.in_ok-machine.machine in
    let opens = c.in_ok-machine.ensures.opening in
    let before = c.replay.new.machine in
    let new = c.push_drain.new.machine in
    let all = c.push_drain.new.steps.items in
    let copied = c.in_ok-all.ensures.items in
    let taken : IsReplay opening c.in_ok-all.all.items before =
    subst (λ (steps : List Step). IsReplay opening steps before) (sym copied) c.in_default.ensures.replay in
    let replay = c.in_ok-push_drain.ensures.replay opening taken in
    record {
      before = before;
      stands = record { opening = opening; opens = opens; replay = c.in_default.ensures.replay };
      is = c.in_ok-push_drain.ensures.steps ∙ ap (λ (steps : List Step). steps ++ drain_steps before) copied;
      run = record {
        opening = opening;
        opens = opens;
        machine = new;
        replay = replay;
        idle = c.in_ok-push_drain.ensures.idle;
        serialized = c.runs_are_serialized.ensures.each opening all new c.machine_is_well_formed.ensures opens.idle
            (subst IsMachine c.machine-2.view_is c.machine-2.invariant) replay.run;
      };
    }
