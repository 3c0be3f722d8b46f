use Rattle.std.proofs.Common.{◌≡◌, ℕ, ◌<◌}
use Rattle.flat_machine.specs.declared.event.Status.TheVariants.{Running}
use Rattle.machine_steps.specs.Standing.{processor_of}
use Rattle.machine_steps.proofs.states.any_runs.Given as goal

abbrev pub invariant-loop-p : goal.invariant-loop-p
invariant-loop-p l = (q : ℕ) → q < l.p → (processor_of l.machine q).status ≡ Running → ⊥
