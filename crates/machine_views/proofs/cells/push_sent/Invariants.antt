use Rattle.std.proofs.Common.{◌≡◌, ◌++◌, take, map}
use Rattle.machine_views.specs.Cells.{request_line}
use Rattle.machine_views.proofs.cells.push_sent.Given as goal

abbrev pub invariant-loop-shown : goal.invariant-loop-shown
invariant-loop-shown l =
    l.lines.items ≡ l.initial.lines.items ++ map (request_line l.names) (take l.shown-index l.all)
