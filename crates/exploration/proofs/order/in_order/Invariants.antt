use Rattle.state_search.specs.Rows.{IsRowExchanged}
use Rattle.state_search.specs.state_store.StateTables.{IsRow}
use Rattle.exploration.proofs.order.in_order.Given as goal

abbrev pub invariant-loop-last : goal.invariant-loop-last
invariant-loop-last g l = record { exchanged : IsRowExchanged l.classes l.row l.new; row : IsRow l.extent l.state_tables l.new }
