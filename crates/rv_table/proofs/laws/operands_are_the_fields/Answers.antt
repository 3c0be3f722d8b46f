use Rattle.rv_table.proofs.Formats.{operands_are_fields}
use Rattle.rv_table.proofs.laws.operands_are_the_fields.Goals as goal

pub returns : goal.returns
returns c = operands_are_fields
