use Rattle.trace_file.proofs.Faulty.{one_fault}
use Rattle.trace_file.proofs.laws.one_fault_at_most.Goals as goal

pub returns : goal.returns
returns c = one_fault
