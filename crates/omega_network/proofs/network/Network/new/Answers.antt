use Rattle.omega_network.proofs.New.{new_empty, new_network}
use Rattle.omega_network.proofs.network.Network.new.Goals as goal

pub invariant_of-result : goal.invariant_of-result
invariant_of-result c = new_network _ c.in_ok-new_switches.ensures c.wires_of.result c.queues_of-queues.result c.in_ok-new.ensures c.requires.stages
    c.wires_of.ensures.exact c.queues_of-queues.ensures

pub returns-clause-empty : goal.returns-clause-empty
returns-clause-empty c = new_empty _ c.in_ok-new_switches.ensures c.wires_of.result c.queues_of-queues.result c.in_ok-new.ensures
