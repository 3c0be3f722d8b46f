use Rattle.ring_network.proofs.Slots.{put_module_slot_net}
use Rattle.ring_network.proofs.network.Network.put_module_slot.Goals as goal

pub returns-clause-after : goal.returns-clause-after
returns-clause-after c = put_module_slot_net _ c.args.self.now c.self.view_is c.self.invariant c.args.m c.requires c.from.result c.from.ensures c.args.reply
