use Rattle.machine_theory.proofs.CatchingUp.{rests}
use Rattle.machine_theory.proofs.loan_laws.cores_that_are_away_rest.Goals as goal

pub returns : goal.returns
returns c = record { rests = λ c code M p. rests c code p M }
