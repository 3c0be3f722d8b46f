use Rattle.std.proofs.Common.{◌≤◌, length, ap, ◌∙◌, arith}
use Rattle.omega_network.proofs.Taken.{before_is, queues_are, replies}
use Rattle.omega_network.proofs.network.Network.reply_count.Goals as goal

pub returns : goal.returns
returns c =
    let stage : c.args.stage ≤ c.args.self.now.k = (let below = c.requires.stage in omega arith) in
    c.from.ensures ∙ c.reply_count.ensures ∙ ap length
    (before_is replies (queues_are c.self.view_is c.self.invariant stage c.requires.wire c.place.ensures.exact))
