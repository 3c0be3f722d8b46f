use Rattle.std.proofs.Common.{◌<◌, length}
use Rattle.state_search.specs.Rows.{IsRowExchanged}
use Rattle.state_search.specs.state_store.StateTables.{IsRow}
use Rattle.exploration.proofs.order.sink.Given as goal

abbrev pub invariant-loop-back : goal.invariant-loop-back
invariant-loop-back g l = record {
  exchanged : IsRowExchanged l.classes l.fn.row l.row;
  row : IsRow l.extent l.state_tables l.row;
  there : l.at < length l.classes;
}
