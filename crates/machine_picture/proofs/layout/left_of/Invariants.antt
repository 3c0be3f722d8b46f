use Rattle.std.proofs.Common.{◌≡◌, ◌+◌, ◌*◌, ◌≤◌}
use Rattle.machine_picture.specs.Layouts.{total_below, width_of}
use Rattle.machine_picture.proofs.layout.left_of.Given as goal

abbrev pub invariant-loop-before : goal.invariant-loop-before
invariant-loop-before l =
    (l.left ≡ 10 + total_below (λ i. width_of l.cells i + 50) l.before) × (l.left ≤ 10 + 762 * l.before) × (10 + 50 * l.before ≤ l.left)
