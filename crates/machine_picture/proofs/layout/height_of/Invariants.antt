use Rattle.std.proofs.Common.{◌≡◌}
use Rattle.machine_views.specs.Cells.{cell_at}
use Rattle.machine_picture.specs.Layouts.{greatest_below, lines_of}
use Rattle.machine_picture.proofs.layout.height_of.Given as goal

abbrev pub invariant-loop-column : goal.invariant-loop-column
invariant-loop-column l =
    l.most ≡ greatest_below (λ column. lines_of (cell_at l.cells column l.row)) l.column
