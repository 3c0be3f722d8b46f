use Rattle.std.proofs.Common.{◌≡◌, ◌++◌}
use Rattle.std.specs.Prelude.{string_bytes}
use Rattle.machine_picture.specs.Pages.{texts_below}
use Rattle.machine_picture.specs.Summaries.{listed_column}
use Rattle.machine_picture.proofs.summary.push_all_listed.Given as goal

abbrev pub invariant-loop-column : goal.invariant-loop-column
invariant-loop-column l =
    string_bytes l.text ≡ string_bytes l.initial.text ++ texts_below (listed_column l.cells) l.column
