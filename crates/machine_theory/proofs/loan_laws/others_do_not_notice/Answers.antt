use Rattle.machine_theory.proofs.Lending.{step_not_noticed, run_not_noticed, kept, several_not_noticed}
use Rattle.machine_theory.proofs.loan_laws.others_do_not_notice.Goals as goal

pub returns : goal.returns
returns c = record {
  step = λ c code M p. step_not_noticed c code p M;
  run = λ c code M p. run_not_noticed c code p M;
  several = several_not_noticed;
  core = λ c code M p. kept c code p M;
}
