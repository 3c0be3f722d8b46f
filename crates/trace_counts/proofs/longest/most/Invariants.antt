use Rattle.std.proofs.Common.{◌≡◌}
use Rattle.omega_network.specs.Networks.{net_of}
use Rattle.trace_counts.specs.Longest.{count_of, most_of}
use Rattle.trace_counts.proofs.longest.most.Given as goal

abbrev pub invariant-loop-wire : goal.invariant-loop-wire
invariant-loop-wire l = l.most ≡ most_of (count_of l.held (net_of l.network) l.stage) l.wire l.before
