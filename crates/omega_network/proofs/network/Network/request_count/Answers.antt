use Rattle.std.proofs.Common.{◌≡◌, ◌+◌, length, suc, ap, ◌∙◌, arith}
use Rattle.omega_network.specs.Networks.{place}
use Rattle.omega_network.proofs.Taken.{before_is, queues_are, requests}
use Rattle.omega_network.proofs.network.Network.request_count.Goals as goal

pub returns : goal.returns
returns c =
    let next : c.args.stage + 1 ≡ suc c.args.stage = omega arith in
    c.from.ensures ∙ c.request_count.ensures ∙ ap length (before_is requests (queues_are c.self.view_is c.self.invariant c.requires.stage c.requires.wire
    (c.place.ensures.exact ∙ ap (λ d. place c.args.self.now.k d c.args.wire) next)))
