use Rattle.std.proofs.Common.{◌∙◌}
use Rattle.ring_network.specs.Networks.{net_of, sizes_of}
use Rattle.ring_network.proofs.Slots.{module_reply_net}
use Rattle.ring_network.proofs.network.Network.module_reply.Goals as goal

pub returns-clause-after : goal.returns-clause-after
returns-clause-after c =
    c.put_module_slot.ensures.after ∙ module_reply_net (sizes_of c.args.self.now) (net_of c.args.self.now) c.args.m c.args.reply c.requires.free
