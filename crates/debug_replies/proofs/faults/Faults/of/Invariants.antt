use Rattle.std.proofs.Common.{◌≡◌, ◌<◌, ◌≤◌, ℕ, false, length}
use Rattle.debug_replies.specs.Stops.{is_faulted_at, is_flagged}
use Rattle.machine_steps.specs.Runs.{flat_state}
use Rattle.debug_replies.proofs.faults.Faults.of.Given as goal

abbrev pub invariant-loop-processor : goal.invariant-loop-processor
invariant-loop-processor l = record {
  size : length l.flags ≡ 64;
  fact : (p : ℕ) → p < l.processor → is_flagged l.flags p ≡ is_faulted_at (flat_state l.machine) p;
  rest : (p : ℕ) → l.processor ≤ p → is_flagged l.flags p ≡ false;
}
