use Rattle.std.proofs.Common.{take}
use Rattle.debug_lines.specs.Lines.{IsUnbroken}
use Rattle.debug_lines.proofs.reader.find_line_feed.Given as goal

abbrev pub invariant-loop-i : goal.invariant-loop-i
invariant-loop-i l = IsUnbroken (take l.i l.bytes)
