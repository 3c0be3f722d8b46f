use Rattle.std.proofs.Common.{◌≡◌, ◌++◌, take}
use Rattle.std.specs.Prelude.{string_bytes}
use Rattle.study_rows.specs.Plots.{points_of}
use Rattle.study_rows.proofs.series.push_points.Given as goal

abbrev pub invariant-loop-row : goal.invariant-loop-row
invariant-loop-row l =
    string_bytes l.text ≡ string_bytes l.initial.text ++ points_of l.axis.column l.axis.step l.head (take l.row-index l.rows)
