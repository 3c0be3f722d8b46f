use Rattle.std.proofs.Common.{◌≡◌, ◌++◌, take}
use Rattle.std.specs.Prelude.{string_bytes}
use Rattle.study_rows.specs.Plots.{marks_of}
use Rattle.study_rows.proofs.series.push_marks.Given as goal

abbrev pub invariant-loop-row : goal.invariant-loop-row
invariant-loop-row l =
    string_bytes l.text
    ≡ string_bytes l.initial.text ++ marks_of l.axis.column l.axis.step l.colour l.head (take l.row-index l.rows)
