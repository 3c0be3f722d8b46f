use Rattle.std.proofs.Common.{◌≡◌, ◌<◌, ◌-◌, suc, ◌∙◌, ap, sym, arith}
use Rattle.std.specs.Prelude.{slice_get}
use Rattle.ring_network.specs.Networks.{requests_before}
use Rattle.ring_network.proofs.Slots.{front_net, slot_first}
use Rattle.omega_network.proofs.Lemmas.{half_of_wire}
use Rattle.ring_network.proofs.network.Network.request_before.Goals as goal

pub returns-then-stage-eq0 : goal.returns-then-stage-eq0
returns-then-stage-eq0 c =
    slot_first _ c.args.self.now c.self.view_is c.self.invariant c.args.wire c.requires.wire c.from.result c.index.result.now c.from.ensures c.index.ensures
    ∙ ap (λ d. slice_get (requests_before c.args.self.now d c.args.wire) 0) (sym c.if-stage-eq0.true)

pub returns-else-stage-eq0 : goal.returns-else-stage-eq0
returns-else-stage-eq0 c =
    let stage : c.args.stage - 1 < c.args.self.now.k = omega arith in
    let back : suc (c.args.stage - 1) ≡ c.args.stage = omega arith in
    c.front.ensures
    ∙ ap (λ q. slice_get q 0) (front_net c.rotations_are_inverse.ensures.inverse c.rotations_are_inverse.ensures.small _ c.args.self.now
    (c.args.stage - 1) c.args.wire c.place_after-place.result c.index-else-stage-eq0.result.now
    (record {
      view = c.self.view_is;
      is = c.self.invariant;
      stage = stage;
      number = half_of_wire c.args.self.now.k (c.args.stage - 1) c.args.wire stage c.requires.wire;
      exact = c.place_after-place.ensures.exact;
      at = c.index-else-stage-eq0.ensures;
    }) c.requires.wire)
    ∙ ap (λ d. slice_get (requests_before c.args.self.now d c.args.wire) 0) back
