use Rattle.std.proofs.Common.{◌≡◌, ◌++◌}
use Rattle.std.specs.Prelude.{string_bytes}
use Rattle.machine_views.specs.Cells.{cell_at}
use Rattle.machine_picture.specs.Pages.{texts_below}
use Rattle.machine_picture.specs.Summaries.{grid_cell}
use Rattle.machine_picture.proofs.summary.push_grid_cells.Given as goal

abbrev pub invariant-loop-row : goal.invariant-loop-row
invariant-loop-row l =
    string_bytes l.text ≡ string_bytes l.initial.text ++ texts_below (λ row. grid_cell l.cells.stages l.column row (cell_at l.cells l.column row)) l.row
