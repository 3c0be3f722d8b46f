use Rattle.std.proofs.Common.{length}
use Rattle.trace_file.specs.Reading.{Adds}
use Rattle.trace_file.proofs.read.add_steps.Given as goal

-- The steps of the piece so far were added.
abbrev pub invariant-loop-rest : goal.invariant-loop-rest
invariant-loop-rest l = Adds l.k l.fn.steps.items l.steps.items l.piece l.rest

abbrev pub decreases-loop-rest : goal.decreases-loop-rest
decreases-loop-rest l = length l.rest
