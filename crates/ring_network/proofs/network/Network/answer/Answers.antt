use Rattle.std.proofs.Common.{◌%◌, ◌/◌, arith, rules}
use Rattle.ring_network.proofs.Kept.{answer_stays, found_after}
use Rattle.ring_network.proofs.NetworkReplies.{answer_net}
use Rattle.ring_network.proofs.network.Network.answer.Goals as goal

pub invariant_of-self : goal.invariant_of-self
invariant_of-self c =
    answer_stays _ c.args.self.now c.args.stage (c.args.wire / 2) c.place_after-place.result c.index_mut.result.now
    (found_after c.self.view_is c.self.invariant c.requires.stage c.requires.wire c.place_after-place.ensures.exact c.index_mut.ensures.value)
    (c.args.wire % 2) c.args.reply c.answer.new.self (omega arith) c.answer.ensures.after

pub returns : goal.returns
returns c =
    let net = answer_net c.rotations_are_inverse.ensures.inverse c.rotations_are_inverse.ensures.small _ c.args.self.now c.args.stage c.args.wire
    c.place_after-place.result c.index_mut.result.now
    (found_after c.self.view_is c.self.invariant c.requires.stage c.requires.wire c.place_after-place.ensures.exact c.index_mut.ensures.value)
    c.requires.wire c.args.reply c.answer.new.self c.answer.result c.answer.ensures.answer c.answer.ensures.after in
    record { answer = net.0; after = net.1; sizes = search rules }
