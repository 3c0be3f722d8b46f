use Rattle.omega_network.proofs.Indexing.{replied_indexed}
use Rattle.omega_network.proofs.indexed_network.IndexedNetwork.module_reply.Goals as goal

pub invariant_of-self : goal.invariant_of-self
invariant_of-self c =
    replied_indexed c.self.inside.network c.module_reply.new.self c.self.inside.requests c.self.inside.replies c.self.invariant c.module_reply.ensures.sizes
    c.args.m c.stages.result c.args.reply c.look_for_reply.new.sets
    c.stages.ensures c.module_reply.ensures.after c.look_for_reply.ensures
