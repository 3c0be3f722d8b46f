use Rattle.assembler.proofs.LineByLine.{Scanned}
use Rattle.assembler.proofs.place.place_lines.Given as goal

abbrev pub invariant-loop-at : goal.invariant-loop-at
invariant-loop-at l = Scanned l.lines l.at l.placed.items l.cursor
