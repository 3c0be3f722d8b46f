use Rattle.std.proofs.Common.{◌%◌, ◌/◌, arith, rules}
use Rattle.ring_network.proofs.Kept.{accept_stays, found_after}
use Rattle.ring_network.proofs.Requests.{accept_net}
use Rattle.ring_network.proofs.network.Network.accept.Goals as goal

pub invariant_of-self : goal.invariant_of-self
invariant_of-self c =
    accept_stays _ c.args.self.now c.args.stage (c.args.wire / 2) c.place_after-place.result c.index_mut.result.now
    (found_after c.self.view_is c.self.invariant c.requires.stage c.requires.wire c.place_after-place.ensures.exact c.index_mut.ensures.value)
    (c.args.wire % 2) c.args.request c.accept.new.self (omega arith) c.accept.ensures.after

pub returns : goal.returns
returns c =
    let net = accept_net c.rotations_are_inverse.ensures.inverse c.rotations_are_inverse.ensures.small _ c.args.self.now c.args.stage c.args.wire
    c.place_after-place.result c.index_mut.result.now
    (found_after c.self.view_is c.self.invariant c.requires.stage c.requires.wire c.place_after-place.ensures.exact c.index_mut.ensures.value)
    c.requires.wire c.args.request c.accept.new.self c.accept.result c.accept.ensures.answer c.accept.ensures.after in
    record { answer = net.0; after = net.1; sizes = search rules }
