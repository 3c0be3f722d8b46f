use Rattle.omega_network.proofs.Indexing.{port_indexed}
use Rattle.omega_network.proofs.indexed_network.IndexedNetwork.port_take.Goals as goal

pub invariant_of-self : goal.invariant_of-self
invariant_of-self c =
    port_indexed c.self.inside.network c.port_take-reply.new.self c.self.inside.requests c.self.inside.replies c.self.invariant c.port_take-reply.ensures.sizes
    c.args.p c.look_for_reply.new.sets
    c.port_take-reply.ensures.after c.look_for_reply.ensures
