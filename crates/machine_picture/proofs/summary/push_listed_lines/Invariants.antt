use Rattle.std.proofs.Common.{◌≡◌, ◌++◌, take}
use Rattle.std.specs.Prelude.{string_bytes}
use Rattle.std.specs.List.{flat_map}
use Rattle.machine_picture.specs.Summaries.{listed_line}
use Rattle.machine_picture.proofs.summary.push_listed_lines.Given as goal

abbrev pub invariant-loop-line : goal.invariant-loop-line
invariant-loop-line l =
    string_bytes l.text ≡ string_bytes l.initial.text ++ flat_map (listed_line l.spot.stages l.spot.column l.spot.row) (take l.line-index l.lines)
