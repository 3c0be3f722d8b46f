use Rattle.std.proofs.Common.{ap, ◌∙◌}
use Rattle.std.specs.Prelude.{slice_get}
use Rattle.omega_network.proofs.Taken.{before_is, queues_are, replies, within}
use Rattle.omega_network.proofs.network.Network.reply_before.Goals as goal

pub front_reply-requires : goal.front_reply-requires
front_reply-requires c = within replies (queues_are c.self.view_is c.self.invariant c.requires.stage c.requires.wire c.place.ensures.exact)

pub returns : goal.returns
returns c = c.front_reply.ensures ∙ ap (λ xs. slice_get xs 0)
    (before_is replies (queues_are c.self.view_is c.self.invariant c.requires.stage c.requires.wire c.place.ensures.exact))
