use Rattle.std.proofs.Common.{◌-◌, ◌^◌, length}
use Rattle.omega_network.specs.Networks.{net_of}
use Rattle.machine_views.specs.Places.{request_view}
use Rattle.machine_views.proofs.Rows.{AreViews}
use Rattle.machine_views.proofs.places.requests_at.Given as goal

abbrev pub invariant-loop-request : goal.invariant-loop-request
invariant-loop-request l =
    AreViews (request_view (net_of l.network) (2 ^ l.network.k) l.depth) ((net_of l.network).requests l.depth l.wire) l.requests.items

abbrev pub decreases-loop-request : goal.decreases-loop-request
decreases-loop-request l = length ((net_of l.network).requests l.depth l.wire) - length l.requests.items
