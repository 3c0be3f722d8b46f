use Rattle.std.proofs.Common.{◌^◌}
use Rattle.omega_network.specs.Networks.{net_of}
use Rattle.machine_views.specs.Places.{place_view}
use Rattle.machine_views.proofs.Rows.{one_more}
use Rattle.machine_views.proofs.places.places_at.Goals as goal

pub loop-wire-preserved : goal.loop-wire-preserved
loop-wire-preserved c =
    let n = c.args.network.now in
    one_more (place_view (net_of n) (2 ^ n.k) c.args.depth) c.loop-wire.wire c.loop-wire.places.items c.push.new.self.items c.in_ok-place_view.field-0
    c.loop-wire.invariant c.in_ok-place_view.ensures c.in_ok-push.ensures.items
