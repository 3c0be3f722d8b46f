use Rattle.omega_network.proofs.Looking.{few_wires}
use Rattle.omega_network.proofs.indexed_network.look_for_request.Goals as goal

pub set_wire-requires-clause-wire : goal.set_wire-requires-clause-wire
set_wire-requires-clause-wire c = few_wires _ c.args.wire c.requires.stages c.requires.wire
