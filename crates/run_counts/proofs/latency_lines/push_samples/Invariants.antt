use Rattle.std.proofs.Common.{◌≡◌, ◌++◌}
use Rattle.std.specs.Prelude.{string_bytes}
use Rattle.run_counts.specs.LatencyLines.{sample_line}
use Rattle.run_counts.specs.Lines.{first_lines}
use Rattle.run_counts.proofs.latency_lines.push_samples.Given as goal

abbrev pub invariant-loop-number : goal.invariant-loop-number
invariant-loop-number l = string_bytes l.text ≡ string_bytes l.initial.text ++ first_lines (sample_line l.subject l.samples) l.number
