use Rattle.symbol_table.proofs.Sorting.{symbols_at, symbols_rise}
use Rattle.symbol_table.proofs.laws.symbols_are_by_address.Goals as goal

pub returns-clause-order : goal.returns-clause-order
returns-clause-order c = symbols_rise

pub returns-clause-rows : goal.returns-clause-rows
returns-clause-rows c = symbols_at
