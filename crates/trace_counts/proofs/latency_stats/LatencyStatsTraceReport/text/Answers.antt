use Rattle.std.proofs.Common.{◌++◌, ◌∙◌, ap}
use Rattle.std.specs.Prelude.{string_bytes}
use Rattle.trace_counts.proofs.latency_stats.LatencyStatsTraceReport.text.Goals as goal

pub returns-clause-fault : goal.returns-clause-fault
returns-clause-fault c = record {
  counts = string_bytes c.in_ok-text.text;
  counted = c.in_ok-text.ensures.fault;
  latencies = string_bytes c.in_ok-lines.lines;
  taken = c.in_ok-lines.ensures.lines;
  is = c.in_ok-push_str.ensures.bytes ∙ ap (λ lines. string_bytes c.in_ok-text.text ++ lines) c.as_str.ensures.value;
}
