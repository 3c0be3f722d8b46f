use Rattle.std.proofs.Common.{◌≡◌, ◌∙◌, ◌+◌, ◌*◌, ◌^◌, ◌<◌, sym, ap, subst}
use Rattle.omega_wires.specs.Wires.{rotated_left, switch_of}
use Rattle.messages.specs.Network.{Sizes}
use Rattle.omega_network.specs.Networks.{NetworkLists}
use Rattle.omega_network.proofs.Indexing.{second_wire, up_indexed}
use Rattle.omega_network.proofs.indexed_network.IndexedNetwork.move_up.Goals as goal

pub look_for_request-requires-3-clause-wire : goal.look_for_request-requires-3-clause-wire
look_for_request-requires-3-clause-wire c =
    let k = c.stages.ensures.stages in
    let same : c.args.self.now.k ≡ c.up-moved.new.self.k =
    sym (ap (λ (z : Sizes). z.k) c.up-moved.ensures.sizes ∙ ap (λ (m : NetworkLists). m.k) c.self.view_is) in
    let wire = (c.rotations_are_inverse.ensures.small c.args.self.now.k c.args.wire c.requires.wire).0 in
    subst (λ n. 2 * n + 1 < 2 ^ c.up-moved.new.self.k) (sym (c.switch_of-out.ensures.exact ∙ ap (λ k. switch_of k c.args.wire) k))
    (subst (λ k. 2 * switch_of c.args.self.now.k c.args.wire + 1 < 2 ^ k) same
    (second_wire c.args.self.now.k c.args.stage (rotated_left c.args.self.now.k c.args.wire) c.requires.stage wire))

pub invariant_of-self : goal.invariant_of-self
invariant_of-self c =
    up_indexed c.self.inside.network c.up-moved.new.self c.self.inside.requests c.self.inside.replies c.self.invariant c.up-moved.ensures.sizes c.args.stage
    c.args.wire _
    c.look_for_request.new.sets c.look_for_request-2.new.sets c.look_for_request-3.new.sets
    c.up-moved.ensures.after
    (ap (λ n. 2 * n) (c.switch_of-out.ensures.exact
    ∙ ap (λ k. switch_of k c.args.wire) (c.stages.ensures.stages ∙ sym (ap (λ (m : NetworkLists). m.k) c.self.view_is))))
    c.look_for_request.ensures c.look_for_request-2.ensures c.look_for_request-3.ensures
