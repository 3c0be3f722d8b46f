use Rattle.std.specs.Prelude.{string_bytes}
use Rattle.omega_network.specs.Networks.{net_of}
use Rattle.page_command.specs.Views.{view_at}
use Rattle.page_command.proofs.PlacesSet.{no_place_yet, place_next}
use Rattle.page_command.proofs.opening.push_places_at.Goals as goal

pub loop-wire-init : goal.loop-wire-init
loop-wire-init c = no_place_yet (view_at c.args.machine.now) (net_of c.args.machine.now.network) c.args.depth (string_bytes c.args.text.now)

pub loop-wire-preserved : goal.loop-wire-preserved
loop-wire-preserved c =
    place_next (view_at c.args.machine.now) (net_of c.args.machine.now.network) c.args.depth c.loop-wire.wire (string_bytes c.args.text.now)
    (string_bytes c.loop-wire.text) (string_bytes c.push_set_place.new.text) c.loop-wire.invariant c.in_ok-push_set_place.ensures
