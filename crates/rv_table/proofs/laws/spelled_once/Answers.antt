use Rattle.std.proofs.Common.{◌∙◌, sym}
use Rattle.std.proofs.lemmas.Option.{same_Some}
use Rattle.rv_table.proofs.Reading.{read}
use Rattle.rv_table.proofs.laws.spelled_once.Goals as goal

pub returns : goal.returns
returns c = λ w i j spells_i spells_j. same_Some i j (sym (read w i spells_i) ∙ read w j spells_j)
