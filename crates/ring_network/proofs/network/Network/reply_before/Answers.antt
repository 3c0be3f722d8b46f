use Rattle.std.proofs.Common.{◌≡◌, ◌<◌, ◌∙◌, ap, sym, arith}
use Rattle.std.specs.Prelude.{slice_get}
use Rattle.omega_wires.specs.Wires.{input_port, rotated_left}
use Rattle.ring_network.specs.Switches.{replies_at}
use Rattle.ring_network.specs.Networks.{NetworkLists, replies_before}
use Rattle.ring_network.proofs.Slots.{module_slot_first, reply_front_net}
use Rattle.omega_network.proofs.Lemmas.{half_of_wire}
use Rattle.ring_network.proofs.network.Network.reply_before.Goals as goal

pub returns-then-stage-self : goal.returns-then-stage-self
returns-then-stage-self c =
    let at_end : c.args.stage ≡ c.args.self.now.k = c.if-stage-self.true ∙ ap (λ (m : NetworkLists). m.k) c.self.view_is in
    module_slot_first _ c.args.self.now c.self.view_is c.self.invariant c.args.wire c.requires.wire c.from.result c.index.result.now c.from.ensures
    c.index.ensures
    ∙ ap (λ d. slice_get (replies_before c.args.self.now d c.args.wire) 0) (sym at_end)

pub returns-else-stage-self : goal.returns-else-stage-self
returns-else-stage-self c =
    let k : c.self.inside.k ≡ c.args.self.now.k = ap (λ (m : NetworkLists). m.k) c.self.view_is in
    let stage : c.args.stage < c.args.self.now.k = omega arith in
    c.reply_front.ensures
    ∙ ap (λ v. slice_get (replies_at c.index-else-stage-self.result.now.inputs v) 0) (c.input_port.ensures.exact ∙ ap (λ h. input_port h c.args.wire) k)
    ∙ ap (λ q. slice_get q 0) (reply_front_net c.rotations_are_inverse.ensures.inverse c.rotations_are_inverse.ensures.small _ c.args.self.now c.args.stage
    c.args.wire c.place_before-place.result c.index-else-stage-self.result.now
    (record {
      view = c.self.view_is;
      is = c.self.invariant;
      stage = stage;
      number = half_of_wire c.args.self.now.k c.args.stage (rotated_left c.args.self.now.k c.args.wire) stage
          ((c.rotations_are_inverse.ensures.small c.args.self.now.k c.args.wire c.requires.wire).0);
      exact = c.place_before-place.ensures.exact;
      at = c.index-else-stage-self.ensures;
    }) c.requires.wire)
