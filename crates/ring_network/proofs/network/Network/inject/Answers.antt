use Rattle.std.proofs.Common.{◌∙◌}
use Rattle.ring_network.specs.Networks.{net_of}
use Rattle.ring_network.proofs.Slots.{inject_net}
use Rattle.ring_network.proofs.network.Network.inject.Goals as goal

pub returns-clause-after : goal.returns-clause-after
returns-clause-after c = c.put_slot.ensures.after ∙ inject_net (net_of c.args.self.now) c.args.p c.args.request c.requires.leader c.requires.free
