use Rattle.std.proofs.Common.{◌≡◌, ◌≤◌, ◌*◌, ◌-◌, length}
use Rattle.machine_steps.specs.Machines.{IsIdle}
use Rattle.machine_steps.specs.Runs.{flat_state}
use Rattle.words_command.specs.Running.{HasRunAlone}
use Rattle.words_command.proofs.run.words_run.Given as goal

abbrev pub invariant-loop-retired : goal.invariant-loop-retired
invariant-loop-retired l = record {
  opening : l.log.opening ≡ l.fn.log.opening;
  idle : IsIdle l.log.machine;
  one : l.log.machine.config.k ≡ 0;
  ran : HasRunAlone (flat_state l.fn.log.machine) (flat_state l.log.machine) l.retired;
  budget : l.retired ≤ 1000000;
  steps : length l.log.steps ≤ 3 * l.retired;
}

abbrev pub decreases-loop-retired : goal.decreases-loop-retired
decreases-loop-retired l = 1000000 - l.retired
