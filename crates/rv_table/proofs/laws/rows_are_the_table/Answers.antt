use Rattle.std.proofs.Common.{refl}
use Rattle.rv_table.specs.Rows.{rows}
use Rattle.rv_table.proofs.laws.rows_are_the_table.Goals as goal

pub returns : goal.returns
unfolding rows
returns c = refl
