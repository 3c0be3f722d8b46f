use Rattle.std.proofs.Common.{◌≡◌, suc, ◌∙◌, ap, arith}
use Rattle.omega_network.specs.Networks.{net_of}
use Rattle.machine_views.specs.Places.{each_below, places_at}
use Rattle.machine_views.proofs.Rows.{one_more}
use Rattle.machine_views.proofs.places.place_views.Goals as goal

pub loop-depth-preserved : goal.loop-depth-preserved
loop-depth-preserved c =
    let n = c.args.network.now in
    one_more (places_at (net_of n) n.k) c.loop-depth.depth c.loop-depth.places.items c.push.new.self.items c.in_ok-places_at.field-0
    c.loop-depth.invariant c.in_ok-places_at.ensures c.in_ok-push.ensures.items

pub returns : goal.returns
returns c =
    let n = c.args.network.now in
    let all : c.loop-depth.depth ≡ suc n.k = omega arith in
    c.of.ensures ∙ c.loop-depth.invariant ∙ ap (each_below (places_at (net_of n) n.k)) all
