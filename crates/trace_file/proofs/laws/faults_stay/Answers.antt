use Rattle.trace_file.proofs.Faulty.{fault_stays}
use Rattle.trace_file.proofs.laws.faults_stay.Goals as goal

pub returns : goal.returns
returns c = fault_stays
