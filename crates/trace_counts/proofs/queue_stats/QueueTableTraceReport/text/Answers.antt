use Rattle.std.specs.Prelude.{string_bytes}
use Rattle.trace_counts.proofs.queue_stats.QueueTableTraceReport.text.Goals as goal

pub returns-clause-fault : goal.returns-clause-fault
returns-clause-fault c = record {
  counts = string_bytes c.in_ok-status.field-0-0;
  counted = c.in_ok-status.ensures.fault;
  table = c.in_ok-table.ensures.lines;
}
