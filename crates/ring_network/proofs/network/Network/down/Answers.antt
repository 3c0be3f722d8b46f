use Rattle.std.proofs.Common.{◌≡◌, ◌∙◌, ◌+◌, suc, ap, sym, arith, rules}
use Rattle.ring_network.specs.Networks.{net_of, sizes_of}
use Rattle.std.specs.Prelude.{slice_get}
use Rattle.omega_network.proofs.Lemmas.{none_is}
use Rattle.ring_network.proofs.network.Network.down.Goals as goal

pub returns-in_default : goal.returns-in_default
returns-in_default c =
    let next : c.args.stage + 1 ≡ suc c.args.stage = omega arith in
    let e = c.moves_of_nothing_stall.ensures.down (sizes_of c.args.self.now) (net_of c.args.self.now) c.args.stage c.args.wire
    (none_is _ (ap (λ d. slice_get ((net_of c.args.self.now).replies d c.args.wire) 0) (sym next) ∙ sym c.reply_before.ensures ∙ c.in_default.is)) in
    record { outcome = sym (ap (λ r. r.0) e); after = sym (ap (λ r. r.1) e); sizes = search rules }
