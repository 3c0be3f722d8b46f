-- Steps with their outcomes.
use Rattle.steps.specs.declared.step.Step.{Step}
use Rattle.steps.specs.declared.step.Outcome.{Outcome}

-- a step and its outcome
pub record Answer : Type 0 where
  pub step : Step
  pub outcome : Outcome

abbrev pub answer : Step → Outcome → Answer
answer s o = record { step = s; outcome = o }
