use Rattle.machine_theory.specs.Processors.{program, sizes_of}
use Rattle.machine_theory.proofs.Putting.{last_counts, stays_put, steady_with}
use Rattle.machine_theory.proofs.loan_laws.cores_are_put.Goals as goal

pub returns : goal.returns
returns c = record { last = last_counts; same = stays_put; steady = λ c code. steady_with (sizes_of c) (program c code) }
