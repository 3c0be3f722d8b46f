use Rattle.std.proofs.Common.{◌≡◌, ◌∙◌, ◌+◌, suc, arith, sym, ap}
use Rattle.omega_network.specs.Networks.{net_of, sizes_of}
use Rattle.omega_network.proofs.Indexing.{nothing_there}
use Rattle.omega_network.proofs.indexed_network.IndexedNetwork.down.Goals as goal

pub returns-else-has_reply-clause-outcome : goal.returns-else-has_reply-clause-outcome
returns-else-has_reply-clause-outcome c =
    let next : c.args.stage + 1 ≡ suc c.args.stage = omega arith in
    sym (ap (λ r. r.0) (c.moves_of_nothing_stall.ensures.down (sizes_of c.args.self.now) (net_of c.args.self.now) c.args.stage c.args.wire
    (ap (λ e. (net_of c.args.self.now).replies e c.args.wire) (sym next) ∙ nothing_there _ c.has_reply.result c.has_reply.ensures c.if-has_reply.false)))

pub returns-else-has_reply-clause-after : goal.returns-else-has_reply-clause-after
returns-else-has_reply-clause-after c =
    let next : c.args.stage + 1 ≡ suc c.args.stage = omega arith in
    sym (ap (λ r. r.1) (c.moves_of_nothing_stall.ensures.down (sizes_of c.args.self.now) (net_of c.args.self.now) c.args.stage c.args.wire
    (ap (λ e. (net_of c.args.self.now).replies e c.args.wire) (sym next) ∙ nothing_there _ c.has_reply.result c.has_reply.ensures c.if-has_reply.false)))
