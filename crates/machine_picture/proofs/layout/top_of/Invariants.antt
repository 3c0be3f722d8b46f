use Rattle.std.proofs.Common.{◌≡◌, ◌+◌, ◌*◌, ◌≤◌}
use Rattle.machine_picture.specs.Layouts.{height_of, total_below}
use Rattle.machine_picture.proofs.layout.top_of.Given as goal

abbrev pub invariant-loop-above : goal.invariant-loop-above
invariant-loop-above l =
    (l.top ≡ 50 + total_below (height_of l.cells) l.above) × (l.top ≤ 50 + 1426 * l.above)
