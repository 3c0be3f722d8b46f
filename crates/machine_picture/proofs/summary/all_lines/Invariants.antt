use Rattle.std.proofs.Common.{◌≡◌, ◌*◌, ◌≤◌}
use Rattle.machine_picture.specs.Layouts.{total_below}
use Rattle.machine_picture.specs.Summaries.{lines_below}
use Rattle.machine_picture.proofs.summary.all_lines.Given as goal

abbrev pub invariant-loop-column : goal.invariant-loop-column
invariant-loop-column l =
    (l.all ≡ total_below (lines_below l.cells) l.column) × (l.all ≤ 6400 * l.column)
