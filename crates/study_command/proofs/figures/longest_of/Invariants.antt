use Rattle.std.proofs.Common.{◌≡◌}
use Rattle.run_counts.specs.Longest.{at_stage}
use Rattle.trace_counts.specs.Longest.{most_of}
use Rattle.study_command.proofs.figures.longest_of.Given as goal

abbrev pub invariant-loop-stage : goal.invariant-loop-stage
invariant-loop-stage l = l.most ≡ most_of (at_stage l.longest l.held) l.stage 0
