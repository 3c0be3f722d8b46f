use Rattle.std.proofs.Common.{◌≡◌}
use Rattle.omega_network.specs.Networks.{net_of}
use Rattle.trace_counts.specs.Longest.{count_of}
use Rattle.trace_counts.specs.QueueLengths.{total_of}
use Rattle.trace_counts.proofs.queue_lengths.total.Given as goal

abbrev pub invariant-loop-wire : goal.invariant-loop-wire
invariant-loop-wire l = l.total ≡ total_of (count_of l.held (net_of l.network) l.stage) l.wire
