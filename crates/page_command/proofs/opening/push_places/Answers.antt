use Rattle.std.proofs.Common.{◌^◌}
use Rattle.std.specs.Prelude.{string_bytes}
use Rattle.omega_network.specs.Networks.{net_of}
use Rattle.page_command.specs.Views.{view_at}
use Rattle.page_command.proofs.PlacesSet.{depth_next, no_depth_yet}
use Rattle.page_command.proofs.opening.push_places.Goals as goal

pub loop-depth-init : goal.loop-depth-init
loop-depth-init c =
    let m = c.args.machine.now in
    no_depth_yet (view_at m) (net_of m.network) (2 ^ m.config.k) (string_bytes c.args.text.now)

pub loop-depth-preserved : goal.loop-depth-preserved
loop-depth-preserved c =
    let m = c.args.machine.now in
    depth_next (view_at m) (net_of m.network) (2 ^ m.config.k) c.loop-depth.depth (string_bytes c.args.text.now) (string_bytes c.loop-depth.text)
    (string_bytes c.push_places_at.new.text) c.loop-depth.invariant c.in_ok-push_places_at.ensures
