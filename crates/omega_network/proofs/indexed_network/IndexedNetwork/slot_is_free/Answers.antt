use Rattle.omega_network.specs.Networks.{requests_before}
use Rattle.omega_network.proofs.Indexing.{free_is}
use Rattle.omega_network.proofs.indexed_network.IndexedNetwork.slot_is_free.Goals as goal

pub returns : goal.returns
returns c = free_is (requests_before c.args.self.now 0 c.args.p) c.has_request.result c.has_request.ensures
