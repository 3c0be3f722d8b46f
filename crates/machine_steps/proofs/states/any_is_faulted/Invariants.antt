use Rattle.std.proofs.Common.{ℕ, ◌<◌}
use Rattle.machine_steps.specs.Standing.{IsFaulted, processor_of}
use Rattle.machine_steps.proofs.states.any_is_faulted.Given as goal

abbrev pub invariant-loop-p : goal.invariant-loop-p
invariant-loop-p l = (q : ℕ) → q < l.p → IsFaulted (processor_of l.machine q).status → ⊥
