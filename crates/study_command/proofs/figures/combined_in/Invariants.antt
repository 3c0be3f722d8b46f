use Rattle.std.proofs.Common.{◌≡◌}
use Rattle.std.specs.Prelude.{slice_index}
use Rattle.trace_counts.specs.QueueLengths.{total_of}
use Rattle.study_command.proofs.figures.combined_in.Given as goal

abbrev pub invariant-loop-stage : goal.invariant-loop-stage
invariant-loop-stage l = l.total ≡ total_of (slice_index l.counts.combined) l.stage
