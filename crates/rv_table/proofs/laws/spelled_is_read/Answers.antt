use Rattle.rv_table.proofs.Reading.{read, spelled}
use Rattle.rv_table.proofs.laws.spelled_is_read.Goals as goal

pub returns : goal.returns
returns c = λ w i. (spelled w i, read w i)
