use Rattle.omega_network.proofs.Indexing.{taken_indexed}
use Rattle.omega_network.proofs.indexed_network.IndexedNetwork.module_take.Goals as goal

pub invariant_of-self : goal.invariant_of-self
invariant_of-self c =
    taken_indexed c.self.inside.network c.module_take-request.new.self c.self.inside.requests c.self.inside.replies c.self.invariant
    c.module_take-request.ensures.sizes c.args.m c.stages.result c.look_for_request.new.sets
    c.stages.ensures c.module_take-request.ensures.after c.look_for_request.ensures
