-- The outcomes of steps that a machine takes, one after another.
use Rattle.std.specs.Prelude.{◌≡◌, ℕ, List, [], ◌∷◌, ◌++◌, length}
use Rattle.flat_machine.specs.declared.config.Config.{Config}
use Rattle.machine_theory.specs.Theory as theory
use Rattle.steps.specs.declared.step.Step.{Step}
use Rattle.steps.specs.declared.step.Outcome.{Outcome}
use Rattle.steps.specs.Answered.{Answer, answer}
use Rattle.machine_theory.specs.Processors.{ObservedCore}
use Rattle.machine_theory.specs.Steps.{outcome_of, after}
use Rattle.machine_steps.specs.Machines.{MachineLists, machine_of, IsStep}
use Rattle.machine_steps.specs.Runs.{IsRun}

-- the steps with their outcomes, each on the machine after the steps before it
unfoldable pub answers_from : Config → (code : List ℕ) → theory.Machine ObservedCore → List Step → List Answer
answers_from c code M [] = []
answers_from c code M (s ∷ ss) = answer s (outcome_of c code M s) ∷ answers_from c code (after c code M s) ss

-- the steps with their outcomes, from this machine
unfoldable pub answers_of : MachineLists → List Step → List Answer
answers_of m steps = answers_from m.config m.code (machine_of m (λ p. [])) steps

-- ---- laws

abbrev pub AnswersBegin : Type 0
AnswersBegin = (m : MachineLists) → IsRun m [] m × (answers_of m [] ≡ [])

-- A step that is taken next comes last among the answers, with its outcome.
abbrev pub AnswersGoOn : Type 0
AnswersGoOn = (opening mid new : MachineLists) (done : List Step) (s : Step) (o : Outcome) → IsRun opening done mid →
    IsStep mid s o new →
    IsRun opening (done ++ s ∷ []) new
    × (answers_of opening (done ++ s ∷ []) ≡ answers_of opening done ++ answer s o ∷ [])

-- There is one answer for each step.
abbrev pub AnswersAreCounted : Type 0
AnswersAreCounted = (m : MachineLists) (steps : List Step) → length (answers_of m steps) ≡ length steps
