use Rattle.std.proofs.Common.{rules}
use Rattle.omega_network.proofs.Offering.{found_is, offer_ends, stood}
use Rattle.omega_network.proofs.network.Network.offer.Goals as goal

pub accept-answer-requires-clause-queues : goal.accept-answer-requires-clause-queues
accept-answer-requires-clause-queues c = stood (found_is c.self.view_is c.self.invariant c.requires.stage c.requires.wire c.switch_after-place.ensures.exact
    c.index_mut.ensures.value)

pub invariant_of-self : goal.invariant_of-self
invariant_of-self c =
    let accepted = c.accept-answer.ensures in
    (offer_ends (found_is c.self.view_is c.self.invariant c.requires.stage c.requires.wire c.switch_after-place.ensures.exact c.index_mut.ensures.value)
    c.args.request c.requires.leader c.up_of.ensures accepted.answer accepted.records accepted.requests).is

pub returns : goal.returns
returns c =
    let accepted = c.accept-answer.ensures in
    let e = offer_ends (found_is c.self.view_is c.self.invariant c.requires.stage c.requires.wire c.switch_after-place.ensures.exact c.index_mut.ensures.value)
    c.args.request c.requires.leader c.up_of.ensures accepted.answer accepted.records accepted.requests in
    record { outcome = e.answer_is; after = e.net_is; sizes = search rules }
