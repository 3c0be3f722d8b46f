use Rattle.std.proofs.Common.{◌≡◌, ℕ, ◌+◌, length}
use Rattle.machine_steps.specs.Noting.{AreNoted}
use Rattle.hunt_command.proofs.Asking.{IsAsking}
use Rattle.hunt_command.proofs.running.ask.Given as goal

abbrev pub invariant-loop-schedule : goal.invariant-loop-schedule
invariant-loop-schedule g l = record {
  config : l.log.log.machine.config ≡ l.initial.log.log.machine.config;
  room : length l.log.log.steps + l.log.capacity_left ≡ length l.initial.log.log.steps + l.initial.log.capacity_left;
  asking : IsAsking l.initial.schedule l.limit l.initial.log.log l.log.log l.schedule;
  noted : AreNoted g.N.StepObserver.observed l.initial.log.log.opening l.initial.log.log.steps l.initial.observer l.initial.observer →
      AreNoted g.N.StepObserver.observed l.initial.log.log.opening l.log.log.steps l.initial.observer l.observer;
  noting : (left : ℕ) → length l.log.log.steps + left ≡ l.limit → g.N.StepObserver.has_room l.observer left;
}

abbrev pub decreases-loop-schedule : goal.decreases-loop-schedule
decreases-loop-schedule g l = length l.schedule
