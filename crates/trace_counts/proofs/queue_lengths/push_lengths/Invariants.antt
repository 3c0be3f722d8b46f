use Rattle.std.proofs.Common.{◌≡◌, ◌++◌}
use Rattle.omega_network.specs.Networks.{net_of}
use Rattle.trace_counts.specs.QueueLengths.{lengths_at}
use Rattle.trace_counts.proofs.queue_lengths.push_lengths.Given as goal

abbrev pub invariant-loop-stage : goal.invariant-loop-stage
invariant-loop-stage l =
    l.lengths.items ≡ l.initial.lengths.items ++ lengths_at l.machine.config.k (net_of l.machine.network) l.round l.stage
