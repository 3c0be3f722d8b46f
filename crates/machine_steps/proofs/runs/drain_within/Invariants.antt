use Rattle.std.proofs.Common.{ℕ, ◌≡◌, ◌+◌}
use Rattle.machine_steps.proofs.Noting.{IsNotedHome}
use Rattle.machine_steps.proofs.runs.drain_within.Given as goal

abbrev pub invariant-loop-moves : goal.invariant-loop-moves
invariant-loop-moves g l = record {
  home : IsNotedHome g.N.StepObserver.observed l.fn.machine l.fn.observer l.moves l.machine l.last l.observer;
  room : (left : ℕ) → left + l.moves ≡ l.bound → g.N.StepObserver.has_room l.observer left;
}
