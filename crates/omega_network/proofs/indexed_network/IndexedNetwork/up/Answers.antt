use Rattle.std.proofs.Common.{sym, ap}
use Rattle.omega_network.specs.Networks.{net_of, sizes_of}
use Rattle.omega_network.proofs.Indexing.{nothing_there}
use Rattle.omega_network.proofs.indexed_network.IndexedNetwork.up.Goals as goal

pub returns-else-has_request-clause-outcome : goal.returns-else-has_request-clause-outcome
returns-else-has_request-clause-outcome c =
    sym (ap (λ r. r.0) (c.moves_of_nothing_stall.ensures.up (sizes_of c.args.self.now) (net_of c.args.self.now) c.args.stage c.args.wire
    (nothing_there _ c.has_request.result c.has_request.ensures c.if-has_request.false)))

pub returns-else-has_request-clause-after : goal.returns-else-has_request-clause-after
returns-else-has_request-clause-after c =
    sym (ap (λ r. r.1) (c.moves_of_nothing_stall.ensures.up (sizes_of c.args.self.now) (net_of c.args.self.now) c.args.stage c.args.wire
    (nothing_there _ c.has_request.result c.has_request.ensures c.if-has_request.false)))
