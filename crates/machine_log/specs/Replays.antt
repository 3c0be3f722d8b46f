-- Traces that a machine cannot take.
use Rattle.std.specs.Prelude.{◌≡◌, ℕ, ◌<◌, List, [], length, take, slice_index_or}
use Rattle.steps.specs.declared.step.Step.{Step}
use Rattle.steps.specs.declared.step.Step.TheVariants as step
use Rattle.steps.specs.declared.step.Outcome.TheVariants.{Stalled}
use Rattle.machine_theory.specs.Steps.{outcome_of}
use Rattle.machine_steps.specs.Machines.{MachineLists, machine_of}
use Rattle.machine_steps.specs.Runs.{IsReplay}

-- The step at this place is the first that stalls. The machine is the one after the steps before it.
pub record StallsAt (old : MachineLists) (steps : List Step) (place : ℕ) (new : MachineLists) : Type 0 where
  pub inside : place < length steps
  pub before : IsReplay old (take place steps) new
  pub stalls : outcome_of new.config new.code (machine_of new (λ p. [])) (slice_index_or steps place (step.Turn 0))
      ≡ Stalled
