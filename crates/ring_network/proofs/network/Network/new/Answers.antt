use Rattle.std.proofs.Common.{◌∙◌}
use Rattle.ring_network.proofs.New.{new_empty, new_network}
use Rattle.ring_network.proofs.network.Network.new.Goals as goal

pub invariant_of-result : goal.invariant_of-result
invariant_of-result c =
    new_network _ c.in_ok-new_switches.ensures c.requires.stages (c.in_ok-free_slots.ensures.count ∙ c.wires_of-wires.ensures)
    (c.in_ok-free_slots-2.ensures.count ∙ c.wires_of-wires.ensures)

pub returns-clause-empty : goal.returns-clause-empty
returns-clause-empty c = new_empty _ c.in_ok-new_switches.ensures c.in_ok-free_slots.ensures.free c.in_ok-free_slots-2.ensures.free
