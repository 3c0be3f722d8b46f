use Rattle.std.proofs.Common.{◌≡◌, length, ◌∙◌, ap}
use Rattle.omega_wires.specs.Wires.{input_port}
use Rattle.ring_network.specs.Switches.{replies_at}
use Rattle.ring_network.specs.Networks.{NetworkLists}
use Rattle.ring_network.proofs.Kept.{found_before}
use Rattle.ring_network.proofs.Slots.{reply_front_net}
use Rattle.ring_network.proofs.network.Network.reply_count.Goals as goal

pub returns : goal.returns
returns c =
    let k : c.self.inside.k ≡ c.args.self.now.k = ap (λ (m : NetworkLists). m.k) c.self.view_is in
    c.reply_count.ensures
    ∙ ap (λ v. length (replies_at c.index.result.now.inputs v)) (c.input_port.ensures.exact ∙ ap (λ h. input_port h c.args.wire) k)
    ∙ ap length (reply_front_net c.rotations_are_inverse.ensures.inverse c.rotations_are_inverse.ensures.small _ c.args.self.now c.args.stage c.args.wire
    c.place_before-switch.result c.index.result.now
    (found_before c.rotations_are_inverse.ensures.small c.self.view_is c.self.invariant c.requires.stage c.requires.wire
    c.place_before-switch.ensures.exact c.index.ensures) c.requires.wire)
