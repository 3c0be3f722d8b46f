use Rattle.std.proofs.Common.{◌≡◌, ◌≤◌, ◌^◌}
use Rattle.omega_network.specs.Networks.{net_of}
use Rattle.machine_views.specs.Groups.{group_of, reached}
use Rattle.machine_views.proofs.groups.group_of.Given as goal

abbrev pub invariant-loop-stage : goal.invariant-loop-stage
invariant-loop-stage l = (l.stage ≤ l.network.k)
    × (reached (net_of l.network) (2 ^ l.network.k) l.stage l.members.items ≡ group_of (net_of l.network) (2 ^ l.network.k) l.depth l.leader)

abbrev pub decreases-loop-stage : goal.decreases-loop-stage
decreases-loop-stage l = l.stage
