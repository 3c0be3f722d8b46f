use Rattle.omega_network.proofs.Offering.{found_is, stood, would_end}
use Rattle.omega_network.proofs.network.Network.would_take.Goals as goal

pub would_take-requires-clause-queues : goal.would_take-requires-clause-queues
would_take-requires-clause-queues c = stood (found_is c.self.view_is c.self.invariant c.requires.stage c.requires.wire c.switch_after.ensures.exact
    c.index.ensures)

pub returns : goal.returns
returns c = would_end (found_is c.self.view_is c.self.invariant c.requires.stage c.requires.wire c.switch_after.ensures.exact c.index.ensures)
    c.args.request.now c.would_take.result c.would_take.ensures
