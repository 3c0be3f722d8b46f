use Rattle.rv_table.proofs.Candidates.{row_listed}
use Rattle.rv_table.proofs.laws.row_of_insn_is_listed.Goals as goal

pub returns : goal.returns
returns c = row_listed
