use Rattle.std.proofs.Common.{[], ◌∙◌, sym, ap}
use Rattle.machine_theory.specs.Steps.{outcome_of}
use Rattle.machine_steps.specs.Machines.{machine_of}
use Rattle.machine_steps.specs.Laws.{AnswersForgetEvents, AnswersAreOfTheSteps}
use Rattle.machine_steps.proofs.Replaying.{outcome_there}
use Rattle.machine_steps.proofs.Retelling.{outcome_same}
use Rattle.machine_steps.proofs.Stalling.{observed_again}
use Rattle.machine_steps.proofs.laws.answers_are_of_the_steps.Goals as goal

forget : AnswersForgetEvents
forget m shown s = ap (λ M. outcome_of m.config m.code M s) (sym (observed_again m shown)) ∙ outcome_same m.config m.code (machine_of m (λ p. [])) shown s

there : AnswersAreOfTheSteps
there opening machine steps run s = sym (outcome_there opening machine steps run s)

pub returns-clause-events : goal.returns-clause-events
returns-clause-events c = forget

pub returns-clause-steps : goal.returns-clause-steps
returns-clause-steps c = there
