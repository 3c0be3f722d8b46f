use Rattle.std.proofs.Common.{◌≡◌}
use Rattle.omega_network.specs.Networks.{net_of}
use Rattle.machine_views.specs.Places.{each_below, places_at}
use Rattle.machine_views.proofs.places.place_views.Given as goal

abbrev pub invariant-loop-depth : goal.invariant-loop-depth
invariant-loop-depth l = l.places.items ≡ each_below (places_at (net_of l.network) l.network.k) l.depth
