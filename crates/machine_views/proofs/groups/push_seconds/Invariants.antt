use Rattle.std.proofs.Common.{◌≡◌, ◌++◌}
use Rattle.omega_network.specs.Networks.{net_of}
use Rattle.machine_views.specs.Groups.{seconds_at}
use Rattle.machine_views.proofs.groups.push_seconds.Given as goal

abbrev pub invariant-loop-wire : goal.invariant-loop-wire
invariant-loop-wire l = l.all.items ≡ l.initial.all.items ++ seconds_at (net_of l.network) l.stage l.leader l.wire
