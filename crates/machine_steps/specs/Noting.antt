-- What an observer sees of a machine's steps.
use Rattle.std.specs.Prelude.{◌≡◌, ℕ, List, [], ◌∷◌}
use Rattle.flat_machine.specs.declared.config.Config.{Config}
use Rattle.machine_theory.specs.Theory as theory
use Rattle.machine_theory.specs.Processors.{ObservedCore}
use Rattle.machine_theory.specs.Steps.{outcome_of, after}
use Rattle.machine_steps.specs.Machines.{MachineLists, machine_of}
use Rattle.steps.specs.declared.step.Step.{Step}
use Rattle.steps.specs.declared.step.Outcome.{Outcome}

-- The observer has seen each of the steps with its outcome, one after another.
abbrev pub AreNotedFrom : {N : Type 0} → (observed : N → Step → Outcome → N → Type 0) → Config → (code : List ℕ) →
    theory.Machine ObservedCore →
    List Step → (old new : N) → Type 0
AreNotedFrom observed c code M [] old new = new ≡ old
AreNotedFrom observed c code M (s ∷ ss) old new = (mid : _) × observed old s (outcome_of c code M s) mid
    × AreNotedFrom observed c code (after c code M s) ss mid new

-- The observer has seen the steps that this machine takes.
abbrev pub AreNoted : {N : Type 0} → (observed : N → Step → Outcome → N → Type 0) → MachineLists → List Step →
    (old new : N) → Type 0
AreNoted observed m steps old new = AreNotedFrom observed m.config m.code (machine_of m (λ p. [])) steps old new
