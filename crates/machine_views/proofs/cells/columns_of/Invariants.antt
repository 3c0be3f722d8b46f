use Rattle.std.proofs.Common.{◌≡◌}
use Rattle.machine_views.specs.Cells.{column_of}
use Rattle.machine_views.specs.Places.{each_below}
use Rattle.machine_views.proofs.cells.columns_of.Given as goal

abbrev pub invariant-loop-column : goal.invariant-loop-column
invariant-loop-column l =
    l.columns.items ≡ each_below (column_of l.names l.view) l.column
