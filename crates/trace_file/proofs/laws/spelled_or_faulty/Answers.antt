use Rattle.trace_file.proofs.Faulty.{no_fault}
use Rattle.trace_file.proofs.Decided.{spelled_or_faulty}
use Rattle.trace_file.proofs.laws.spelled_or_faulty.Goals as goal

pub returns-clause-either : goal.returns-clause-either
returns-clause-either c = spelled_or_faulty

pub returns-clause-not_both : goal.returns-clause-not_both
returns-clause-not_both c = λ bytes t spells (place, fault, wrong). no_fault bytes t place fault spells wrong
