use Rattle.std.proofs.Common.{◌∙◌, ap, sym, rules}
use Rattle.ring_network.specs.Networks.{net_of, sizes_of}
use Rattle.omega_network.proofs.Lemmas.{none_is}
use Rattle.ring_network.proofs.network.Network.up.Goals as goal

pub returns-in_default : goal.returns-in_default
returns-in_default c =
    let e = c.moves_of_nothing_stall.ensures.up (sizes_of c.args.self.now) (net_of c.args.self.now) c.args.stage c.args.wire
    (none_is _ (sym c.request_before.ensures ∙ c.in_default.is)) in
    record { outcome = sym (ap (λ r. r.0) e); after = sym (ap (λ r. r.1) e); sizes = search rules }
