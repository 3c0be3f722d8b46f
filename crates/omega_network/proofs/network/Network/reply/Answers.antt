use Rattle.std.proofs.Common.{ap, ◌∙◌}
use Rattle.std.specs.Prelude.{slice_get}
use Rattle.omega_network.proofs.Taken.{before_is, queues_are, replies, within}
use Rattle.omega_network.proofs.network.Network.reply.Goals as goal

pub reply-requires : goal.reply-requires
reply-requires c = within replies (queues_are c.self.view_is c.self.invariant c.requires.stage c.requires.wire c.place-queue.ensures.exact)

pub returns : goal.returns
returns c = c.reply.ensures ∙ ap (λ xs. slice_get xs c.args.place)
    (before_is replies (queues_are c.self.view_is c.self.invariant c.requires.stage c.requires.wire c.place-queue.ensures.exact))
