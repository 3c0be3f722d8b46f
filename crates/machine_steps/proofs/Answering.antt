-- A machine begins with no answers, and each step that is taken next adds its outcome.
use Rattle.std.proofs.Common.{◌≡◌, ℕ, suc, List, [], ◌∷◌, ◌++◌, length, refl, sym, ap, ◌∙◌}
use Rattle.flat_machine.specs.declared.config.Config.{Config}
use Rattle.machine_theory.specs.Theory as theory
use Rattle.steps.specs.declared.step.Step.{Step}
use Rattle.steps.specs.declared.step.Outcome.{Outcome}
use Rattle.machine_theory.specs.Processors.{ObservedCore}
use Rattle.machine_theory.specs.Steps.{outcome_of, after}
use Rattle.machine_steps.specs.Machines.{MachineLists, machine_of, IsStep}
use Rattle.machine_steps.specs.Runs.{all_after, IsRun}
use Rattle.machine_steps.proofs.Replaying.{outcome_there, replay_begins}
use Rattle.machine_steps.proofs.Running.{run_more}
use Rattle.steps.specs.Answered.{Answer, answer}
use Rattle.machine_steps.specs.Answers.{answers_from, answers_of}

answers_none : (m : MachineLists) → answers_of m [] ≡ []
unfolding answers_of answers_from
answers_none m = refl

-- A machine is a run of itself, with no step and no answers.
pub answers_begin : (m : MachineLists) → IsRun m [] m × (answers_of m [] ≡ [])
answers_begin m = ((replay_begins m).run, answers_none m)

-- The answers to steps and one more are the answers to these steps, and the outcome of the one.
answered_more : (c : Config) (code : List ℕ) (M : theory.Machine ObservedCore) (done : List Step) (s : Step) →
    answers_from c code M (done ++ s ∷ []) ≡ answers_from c code M done ++ answer s (outcome_of c code (all_after c code M done) s) ∷ []
unfolding answers_from all_after
answered_more c code M [] s = refl
answered_more c code M (x ∷ done) s = ap (λ xs. answer x (outcome_of c code M x) ∷ xs) (answered_more c code (after c code M x) done s)

module _ (old m new : MachineLists) (done : List Step) (s : Step) (o : Outcome) (r : IsRun old done m) (is : IsStep m s o new) where
  more_answers : answers_of old (done ++ s ∷ []) ≡ answers_of old done ++ answer s o ∷ []
  unfolding answers_of
  more_answers =
      answered_more old.config old.code (machine_of old (λ p. [])) done s
      ∙ ap (λ o. answers_from old.config old.code (machine_of old (λ p. [])) done ++ answer s o ∷ [])
      (outcome_there old m done r s ∙ sym is.step.outcome)

-- A step that is taken next comes last in the run, and its outcome comes last among the answers.
pub answers_more : (opening mid new : MachineLists) (done : List Step) (s : Step) (o : Outcome) → IsRun opening done mid → IsStep mid s o new →
    IsRun opening (done ++ s ∷ []) new × (answers_of opening (done ++ s ∷ []) ≡ answers_of opening done ++ answer s o ∷ [])
answers_more opening mid new done s o r is = (run_more opening mid new done s o r is, more_answers opening mid new done s o r is)

counted_from : (c : Config) (code : List ℕ) (M : theory.Machine ObservedCore) (steps : List Step) → length (answers_from c code M steps) ≡ length steps
unfolding answers_from
counted_from c code M [] = refl
counted_from c code M (s ∷ steps) = ap suc (counted_from c code (after c code M s) steps)

-- There is one answer for each step.
pub answers_counted : (m : MachineLists) (steps : List Step) → length (answers_of m steps) ≡ length steps
unfolding answers_of
answers_counted m steps = counted_from m.config m.code (machine_of m (λ p. [])) steps
