use Rattle.assembler.specs.Passes.{label_values}
use Rattle.assembler.proofs.LineByLine.{Emitted}
use Rattle.assembler.proofs.emit.emit_lines.Given as goal

abbrev pub invariant-loop-at : goal.invariant-loop-at
invariant-loop-at l = Emitted (label_values l.labels) l.placed l.at l.entry l.layout
