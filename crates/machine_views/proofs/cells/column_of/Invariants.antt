use Rattle.std.proofs.Common.{◌≡◌}
use Rattle.machine_views.specs.Cells.{cell_of}
use Rattle.machine_views.specs.Places.{each_below}
use Rattle.machine_views.proofs.cells.column_of.Given as goal

abbrev pub invariant-loop-row : goal.invariant-loop-row
invariant-loop-row l =
    l.cells.items ≡ each_below (cell_of l.names l.view l.column) l.row
