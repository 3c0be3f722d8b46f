use Rattle.std.proofs.Common.{◌≡◌, ◌*◌, ◌≤◌, min}
use Rattle.machine_views.specs.Cells.{cell_at}
use Rattle.machine_picture.specs.Layouts.{lines_of, total_below}
use Rattle.machine_picture.proofs.summary.lines_below.Given as goal

abbrev pub invariant-loop-row : goal.invariant-loop-row
invariant-loop-row l =
    (l.lines ≡ total_below (λ row. min (lines_of (cell_at l.cells l.column row)) 100) l.row) × (l.lines ≤ 100 * l.row)
