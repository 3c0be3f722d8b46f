use Rattle.std.proofs.Common.{◌≡◌}
use Rattle.machine_views.specs.Cells.{cell_at}
use Rattle.machine_picture.specs.Layouts.{greatest_below, letters_of}
use Rattle.machine_picture.proofs.layout.text_width.Given as goal

abbrev pub invariant-loop-row : goal.invariant-loop-row
invariant-loop-row l =
    l.most ≡ greatest_below (λ row. letters_of (cell_at l.cells l.column row)) l.row
