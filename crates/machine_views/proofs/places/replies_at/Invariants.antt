use Rattle.std.proofs.Common.{◌-◌, ◌^◌, length}
use Rattle.omega_network.specs.Networks.{net_of}
use Rattle.machine_views.specs.Places.{reply_view}
use Rattle.machine_views.proofs.Rows.{AreViews}
use Rattle.machine_views.proofs.places.replies_at.Given as goal

abbrev pub invariant-loop-reply : goal.invariant-loop-reply
invariant-loop-reply l =
    AreViews (reply_view (net_of l.network) (2 ^ l.network.k) l.depth) ((net_of l.network).replies l.depth l.wire) l.replies.items

abbrev pub decreases-loop-reply : goal.decreases-loop-reply
decreases-loop-reply l = length ((net_of l.network).replies l.depth l.wire) - length l.replies.items
