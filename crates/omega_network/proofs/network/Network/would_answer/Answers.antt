use Rattle.omega_network.proofs.Answering.{would_answer_end}
use Rattle.omega_network.proofs.Offering.{found_is, stood}
use Rattle.omega_network.proofs.network.Network.would_answer.Goals as goal

pub would_answer-requires-clause-queues : goal.would_answer-requires-clause-queues
would_answer-requires-clause-queues c = stood (found_is c.self.view_is c.self.invariant c.requires.stage c.requires.wire c.switch_after.ensures.exact
    c.index.ensures)

pub returns : goal.returns
returns c = would_answer_end (found_is c.self.view_is c.self.invariant c.requires.stage c.requires.wire c.switch_after.ensures.exact c.index.ensures)
    c.args.reply.now c.would_answer.result c.would_answer.ensures
