use Rattle.std.proofs.Common.{ℕ, ◌≡◌, ◌+◌, length, take}
use Rattle.machine_steps.specs.Machines.{IsMachine}
use Rattle.machine_steps.specs.Noting.{AreNoted}
use Rattle.machine_steps.specs.Runs.{IsReplay}
use Rattle.machine_log.proofs.replaying.replay_observed.Given as goal

abbrev pub invariant-loop-place : goal.invariant-loop-place
invariant-loop-place g l = record {
  replay : IsReplay l.fn.machine (take l.place l.steps) l.machine;
  observed : AreNoted g.N.StepObserver.observed l.fn.machine (take l.place l.steps) l.fn.observer l.observer;
  room : (left : ℕ) → left + l.place ≡ length l.steps → g.N.StepObserver.has_room l.observer left;
  sound : IsMachine l.machine;
}
