use Rattle.std.proofs.Common.{◌≡◌, ◌++◌, take}
use Rattle.std.specs.Prelude.{string_bytes}
use Rattle.study_rows.specs.Texts.{next_cells}
use Rattle.study_rows.proofs.lines.push_cells.Given as goal

abbrev pub invariant-loop-column : goal.invariant-loop-column
invariant-loop-column l =
    string_bytes l.text ≡ string_bytes l.initial.text ++ next_cells l.layout l.row (take l.column-index l.columns)
