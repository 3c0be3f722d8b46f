use Rattle.std.proofs.Common.{◌≡◌, ℕ, ◌≤◌, ◌<◌, slice_get, Some}
use Rattle.steps.specs.declared.step.Step.{Step}
use Rattle.machine_lock.specs.Lists.{IsIdleMove}
use Rattle.machine_lock.proofs.stalling.idle_rounds.Given as goal

-- The steps that were looked at so far are idle moves.
abbrev pub invariant-loop-place : goal.invariant-loop-place
invariant-loop-place l = record {
  few : l.place ≤ l.last;
  moves : (place : ℕ) (s : Step) → place < l.place → slice_get l.steps place ≡ Some s → IsIdleMove l.machine s;
}
