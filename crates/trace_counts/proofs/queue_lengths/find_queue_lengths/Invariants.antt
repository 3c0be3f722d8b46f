use Rattle.std.proofs.Common.{take}
use Rattle.trace_counts.proofs.QueueRuns.{AreLengthsSoFar}
use Rattle.trace_counts.proofs.queue_lengths.find_queue_lengths.Given as goal

abbrev pub invariant-loop-step : goal.invariant-loop-step
invariant-loop-step l = AreLengthsSoFar l.initial.machine (take l.step-index l.steps) l.machine l.lengths.items l.begun
