use Rattle.machine_theory.proofs.CatchingUp.{catch_up}
use Rattle.machine_theory.proofs.loan_laws.local_turns_catch_up.Goals as goal

pub returns : goal.returns
returns c = record { turns = λ c code M p. catch_up c code p M }
