use Rattle.omega_network.proofs.Indexing.{injected_indexed}
use Rattle.omega_network.proofs.indexed_network.IndexedNetwork.inject.Goals as goal

pub invariant_of-self : goal.invariant_of-self
invariant_of-self c =
    injected_indexed c.self.inside.network c.inject.new.self c.self.inside.requests c.self.inside.replies c.self.invariant c.inject.ensures.sizes
    c.args.request c.args.p c.look_for_request.new.sets
    c.inject.ensures.after c.requires.leader c.look_for_request.ensures
