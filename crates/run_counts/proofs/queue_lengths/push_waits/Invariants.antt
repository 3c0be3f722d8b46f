use Rattle.std.proofs.Common.{◌≡◌, ◌++◌}
use Rattle.std.specs.Prelude.{string_bytes}
use Rattle.run_counts.specs.Lines.{first_lines}
use Rattle.run_counts.specs.QueueLengths.{waited_line}
use Rattle.run_counts.proofs.queue_lengths.push_waits.Given as goal

abbrev pub invariant-loop-stage : goal.invariant-loop-stage
invariant-loop-stage l = string_bytes l.text ≡ string_bytes l.initial.text ++ first_lines (waited_line l.lengths) l.stage
