use Rattle.std.proofs.Common.{◌≡◌, ◌^◌}
use Rattle.omega_network.specs.Networks.{net_of}
use Rattle.machine_views.specs.Places.{each_below, place_view}
use Rattle.machine_views.proofs.places.places_at.Given as goal

abbrev pub invariant-loop-wire : goal.invariant-loop-wire
invariant-loop-wire l = l.places.items ≡ each_below (place_view (net_of l.network) (2 ^ l.network.k) l.depth) l.wire
