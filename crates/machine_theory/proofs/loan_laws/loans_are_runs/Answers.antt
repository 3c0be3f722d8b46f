use Rattle.machine_theory.proofs.Lending.{loans}
use Rattle.machine_theory.proofs.loan_laws.loans_are_runs.Goals as goal

pub returns : goal.returns
returns c = record { loans = λ c code M p. loans c code p M }
