use Rattle.std.proofs.Common.{rules}
use Rattle.omega_network.proofs.Answering.{answer_ends, queued_there}
use Rattle.omega_network.proofs.Offering.{found_is, stood}
use Rattle.omega_network.proofs.network.Network.answer.Goals as goal

pub answer-answer-requires-clause-queues : goal.answer-answer-requires-clause-queues
answer-answer-requires-clause-queues c = stood (found_is c.self.view_is c.self.invariant c.requires.stage c.requires.wire c.switch_after-place.ensures.exact
    c.index_mut.ensures.value)

pub answer-answer-requires-clause-leaders : goal.answer-answer-requires-clause-leaders
answer-answer-requires-clause-leaders c = queued_there (found_is c.self.view_is c.self.invariant c.requires.stage c.requires.wire
    c.switch_after-place.ensures.exact c.index_mut.ensures.value)
    c.args.reply c.requires.leader

pub invariant_of-self : goal.invariant_of-self
invariant_of-self c =
    let answered = c.answer-answer.ensures in
    (answer_ends (found_is c.self.view_is c.self.invariant c.requires.stage c.requires.wire c.switch_after-place.ensures.exact c.index_mut.ensures.value)
    c.args.reply c.requires.leader c.down_of.ensures answered.answer answered.records answered.replies).is

pub returns : goal.returns
returns c =
    let answered = c.answer-answer.ensures in
    let e = answer_ends (found_is c.self.view_is c.self.invariant c.requires.stage c.requires.wire c.switch_after-place.ensures.exact
    c.index_mut.ensures.value)
    c.args.reply c.requires.leader c.down_of.ensures answered.answer answered.records answered.replies in
    record { outcome = e.answer_is; after = e.net_is; sizes = search rules }
