use Rattle.std.proofs.Common.{◌≡◌, ◌++◌}
use Rattle.std.specs.Prelude.{string_bytes}
use Rattle.machine_picture.specs.Pages.{texts_below}
use Rattle.machine_picture.specs.WholePictures.{column_text}
use Rattle.machine_picture.proofs.whole.push_columns.Given as goal

abbrev pub invariant-loop-column : goal.invariant-loop-column
invariant-loop-column l =
    string_bytes l.text ≡ string_bytes l.initial.text ++ texts_below (column_text l.cells) l.column
