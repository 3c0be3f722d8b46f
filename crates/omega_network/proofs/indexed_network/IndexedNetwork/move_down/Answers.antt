use Rattle.std.proofs.Common.{◌∙◌, ◌+◌, ◌*◌, ◌/◌, ◌^◌, ◌<◌, sym, ap, subst}
use Rattle.omega_wires.specs.Wires.{rotated_right}
use Rattle.omega_network.specs.Networks.{NetworkLists}
use Rattle.omega_network.proofs.Indexing.{down_indexed, second_wire}
use Rattle.omega_network.proofs.indexed_network.IndexedNetwork.move_down.Goals as goal

pub rotate_right-second-requires-clause-on_a_wire : goal.rotate_right-second-requires-clause-on_a_wire
rotate_right-second-requires-clause-on_a_wire c =
    subst (λ k. 2 * (c.args.wire / 2) + 1 < 2 ^ k) (sym c.stages-k.ensures.stages)
    (second_wire c.args.self.now.k c.args.stage c.args.wire c.requires.stage c.requires.wire)

pub invariant_of-self : goal.invariant_of-self
invariant_of-self c =
    let size = c.stages-k.ensures.stages ∙ sym (ap (λ (m : NetworkLists). m.k) c.self.view_is) in
    down_indexed c.self.inside.network c.down-moved.new.self c.self.inside.requests c.self.inside.replies c.self.invariant c.down-moved.ensures.sizes
    c.args.stage c.args.wire c.rotate_right-first.result c.rotate_right-second.result
    c.look_for_reply.new.sets c.look_for_reply-2.new.sets c.look_for_reply-3.new.sets
    c.down-moved.ensures.after
    (c.rotate_right-first.ensures.exact ∙ ap (λ k. rotated_right k (2 * (c.args.wire / 2))) size)
    (c.rotate_right-second.ensures.exact ∙ ap (λ k. rotated_right k (2 * (c.args.wire / 2) + 1)) size)
    c.look_for_reply.ensures c.look_for_reply-2.ensures c.look_for_reply-3.ensures
