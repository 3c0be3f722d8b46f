use Rattle.std.proofs.Common.{ℕ, ◌≡◌, ◌+◌, length, take}
use Rattle.machine_steps.specs.Noting.{AreNoted}
use Rattle.machine_steps.specs.Runs.{IsRun}
use Rattle.machine_steps.proofs.machine.Machine.run_observed.Given as goal

abbrev pub invariant-loop-step : goal.invariant-loop-step
invariant-loop-step g l = record {
  run : IsRun l.fn.self (take l.step-index l.steps) l.self;
  observed : AreNoted g.N.StepObserver.observed l.fn.self (take l.step-index l.steps) l.fn.observer l.observer;
  room : (left : ℕ) → left + l.step-index ≡ length l.steps → g.N.StepObserver.has_room l.observer left;
}
