use Rattle.omega_network.proofs.Looking.{few_wires}
use Rattle.omega_network.proofs.indexed_network.IndexedNetwork.has_reply.Goals as goal

pub contains-requires : goal.contains-requires
contains-requires c = few_wires _ c.args.wire c.reply_wires.ensures.stages c.requires.wire
