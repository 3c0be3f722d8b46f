use Rattle.std.proofs.Common.{◌<◌, length}
use Rattle.state_search.specs.Rows.{IsRowExchanged}
use Rattle.state_search.proofs.ordering.canonical.Given as goal

abbrev pub invariant-loop-next : goal.invariant-loop-next
invariant-loop-next g l = record { exchanged : IsRowExchanged l.classes l.row l.new; there : l.at < length l.classes }

abbrev pub invariant-loop-back : goal.invariant-loop-back
invariant-loop-back g l = record { exchanged : IsRowExchanged l.classes l.row l.new; there : l.at < length l.classes }
