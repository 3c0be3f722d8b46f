use Rattle.std.proofs.Common.{drop, set, ap, ◌∙◌}
use Rattle.omega_wires.specs.Wires.{input_port, switch_of}
use Rattle.ring_network.specs.Switches.{replies_at, with_inputs}
use Rattle.ring_network.specs.Networks.{NetworkLists}
use Rattle.ring_network.proofs.Kept.{found_before, reply_take_stays}
use Rattle.ring_network.proofs.NetworkReplies.{reply_take_net}
use Rattle.ring_network.proofs.network.Network.take_ahead.Goals as goal

pub invariant_of-self : goal.invariant_of-self
invariant_of-self c =
    reply_take_stays _ c.args.self.now c.args.stage (switch_of c.args.self.now.k c.args.wire) c.place_before-place.result c.index_mut.result.now
    (found_before c.rotations_are_inverse.ensures.small c.self.view_is c.self.invariant c.requires.stage c.requires.wire
    c.place_before-place.ensures.exact c.index_mut.ensures.value)
    c.input_port-input.result (drop 1 (replies_at c.index_mut.result.now.inputs c.input_port-input.result)) c.reply_take.new.self c.reply_take.ensures.after

pub returns-clause-taken : goal.returns-clause-taken
returns-clause-taken c =
    reply_take_net c.rotations_are_inverse.ensures.inverse c.rotations_are_inverse.ensures.small _ c.args.self.now c.args.stage c.args.wire
    c.place_before-place.result c.index_mut.result.now c.reply_take.new.self
    (found_before c.rotations_are_inverse.ensures.small c.self.view_is c.self.invariant c.requires.stage c.requires.wire
    c.place_before-place.ensures.exact c.index_mut.ensures.value)
    c.requires.wire (c.reply_take.ensures.after ∙ ap
    (λ v. with_inputs c.index_mut.result.now (set c.index_mut.result.now.inputs v (drop 1 (replies_at c.index_mut.result.now.inputs v))))
    (c.input_port-input.ensures.exact ∙ ap (λ k. input_port k c.args.wire) (ap (λ (m : NetworkLists). m.k) c.self.view_is)))
