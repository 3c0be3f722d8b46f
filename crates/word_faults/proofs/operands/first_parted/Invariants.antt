use Rattle.std.proofs.Common.{◌≡◌, map, length}
use Rattle.std.specs.Prelude.{find}
use Rattle.word_faults.specs.Spans.{span_of}
use Rattle.word_faults.specs.WrongOperands.{is_parted}
use Rattle.word_faults.proofs.operands.first_parted.Given as goal

abbrev pub invariant-loop-rest : goal.invariant-loop-rest
invariant-loop-rest l = find is_parted (map span_of l.rest) ≡ find is_parted (map span_of l.operands)

abbrev pub decreases-loop-rest : goal.decreases-loop-rest
decreases-loop-rest l = length l.rest
