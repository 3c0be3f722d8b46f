use Rattle.std.proofs.Common.{◌≡◌, ◌^◌, take}
use Rattle.omega_network.specs.Networks.{net_of}
use Rattle.machine_views.specs.Groups.{split_at}
use Rattle.machine_views.proofs.groups.split_at.Given as goal

abbrev pub invariant-loop-leader : goal.invariant-loop-leader
invariant-loop-leader l = l.all.items ≡ split_at (net_of l.network) (2 ^ l.network.k) l.stage (take l.leader-index l.leaders)
