use Rattle.std.proofs.Common.{◌≡◌, ◌++◌, length, map}
use Rattle.word_faults.specs.Spans.{span_of, operand_spans}
use Rattle.word_faults.proofs.parts.Parts.operands.Given as goal

-- The operands so far, followed by those of the rest, are all operands.
abbrev pub invariant-loop-operand : goal.invariant-loop-operand
invariant-loop-operand l = map span_of l.operands.items ++ operand_spans (span_of l.rest) ≡ operand_spans (span_of l.self.rest)

abbrev pub decreases-loop-operand : goal.decreases-loop-operand
decreases-loop-operand l = length l.rest.bytes.now
