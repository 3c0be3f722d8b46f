use Rattle.rv_table.proofs.Formats.{row_spells}
use Rattle.rv_table.proofs.laws.row_spells_an_instruction.Goals as goal

pub returns : goal.returns
returns c = row_spells
