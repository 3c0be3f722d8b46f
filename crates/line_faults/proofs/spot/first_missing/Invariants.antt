use Rattle.std.proofs.Common.{◌≡◌, ◌+◌, map, length}
use Rattle.line_faults.specs.Places.{label_values}
use Rattle.word_faults.specs.Spans.{span_of}
use Rattle.word_faults.specs.Wants.{shape_wants}
use Rattle.line_faults.specs.WordAtFault.{missing_within}
use Rattle.word_faults.specs.WrongOperands.{first_in}
use Rattle.line_faults.proofs.spot.first_missing.Given as goal

abbrev pub invariant-loop-rest : goal.invariant-loop-rest
invariant-loop-rest l = record {
  rest : first_in (missing_within (label_values l.labels)) (shape_wants l.shape) l.number (map span_of l.rest)
      ≡ first_in (missing_within (label_values l.labels)) (shape_wants l.shape) 0 (map span_of l.operands);
  number : l.number + length l.rest ≡ length l.operands;
}

abbrev pub decreases-loop-rest : goal.decreases-loop-rest
decreases-loop-rest l = length l.rest
