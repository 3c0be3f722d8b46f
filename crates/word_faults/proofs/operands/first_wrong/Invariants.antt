use Rattle.std.proofs.Common.{◌≡◌, ◌+◌, map, length}
use Rattle.word_faults.specs.Spans.{span_of}
use Rattle.word_faults.specs.Wants.{shape_wants}
use Rattle.word_faults.specs.WrongOperands.{fault_within, first_in}
use Rattle.word_faults.specs.OperandAdvice.{advice_within}
use Rattle.word_faults.proofs.operands.first_wrong.Given as goal

abbrev pub invariant-loop-rest : goal.invariant-loop-rest
invariant-loop-rest l = record {
  rest : first_in fault_within (shape_wants l.shape) l.number (map span_of l.rest) ≡ first_in fault_within (shape_wants l.shape) 0 (map span_of l.operands);
  advice : first_in advice_within (shape_wants l.shape) l.number (map span_of l.rest)
      ≡ first_in advice_within (shape_wants l.shape) 0 (map span_of l.operands);
  number : l.number + length l.rest ≡ length l.operands;
}

abbrev pub decreases-loop-rest : goal.decreases-loop-rest
decreases-loop-rest l = length l.rest
