use Rattle.std.proofs.Common.{◌∙◌, ap}
use Rattle.ring_network.specs.Switches.{records_at}
use Rattle.ring_network.specs.Networks.{NetworkLists, records_after}
use Rattle.ring_network.proofs.Kept.{found_after}
use Rattle.ring_network.proofs.Requests.{at_place}
use Rattle.ring_network.proofs.network.Network.records.Goals as goal

pub returns : goal.returns
unfolding records_after
returns c =
    c.records.ensures
    ∙ at_place c.rotations_are_inverse.ensures.inverse c.rotations_are_inverse.ensures.small _ c.args.self.now c.args.stage c.args.wire
    c.place_after-switch.result c.index.result.now
    (found_after c.self.view_is c.self.invariant c.requires.stage c.requires.wire c.place_after-switch.ensures.exact c.index.ensures)
    c.requires.wire records_at
    ∙ ap (λ (l : NetworkLists). records_after l c.args.stage c.args.wire) c.self.view_is
