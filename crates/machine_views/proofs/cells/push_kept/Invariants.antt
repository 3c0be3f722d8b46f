use Rattle.std.proofs.Common.{◌≡◌, ◌++◌, take, map}
use Rattle.machine_views.specs.Cells.{record_line}
use Rattle.machine_views.proofs.cells.push_kept.Given as goal

abbrev pub invariant-loop-kept : goal.invariant-loop-kept
invariant-loop-kept l =
    l.lines.items ≡ l.initial.lines.items ++ map record_line (take l.kept-index l.all)
