use Rattle.std.proofs.Common.{length, ◌∙◌, ap}
use Rattle.ring_network.proofs.Kept.{found_after}
use Rattle.ring_network.proofs.Slots.{front_net}
use Rattle.ring_network.proofs.network.Network.request_count.Goals as goal

pub returns : goal.returns
returns c =
    c.request_count.ensures
    ∙ ap length (front_net c.rotations_are_inverse.ensures.inverse c.rotations_are_inverse.ensures.small _ c.args.self.now c.args.stage c.args.wire
    c.place_after-switch.result c.index.result.now
    (found_after c.self.view_is c.self.invariant c.requires.stage c.requires.wire c.place_after-switch.ensures.exact c.index.ensures) c.requires.wire)
