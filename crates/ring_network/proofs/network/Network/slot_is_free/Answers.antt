use Rattle.ring_network.specs.Networks.{requests_before}
use Rattle.omega_network.proofs.Lemmas.{free_is}
use Rattle.ring_network.proofs.network.Network.slot_is_free.Goals as goal

pub returns : goal.returns
returns c = free_is (requests_before c.args.self.now 0 c.args.p) c.request_before.result c.is_none.result c.request_before.ensures c.is_none.ensures
