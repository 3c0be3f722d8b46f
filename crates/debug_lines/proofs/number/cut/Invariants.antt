use Rattle.std.proofs.Common.{◌≡◌, ◌++◌, take, drop}
use Rattle.debug_lines.specs.Numbers.{cut_at_space}
use Rattle.debug_lines.proofs.number.cut.Given as goal

abbrev pub invariant-loop-i : goal.invariant-loop-i
invariant-loop-i l =
    ((cut_at_space l.bytes).0 ≡ take l.i l.bytes ++ (cut_at_space (drop l.i l.bytes)).0) × ((cut_at_space l.bytes).1 ≡ (cut_at_space (drop l.i l.bytes)).1)
