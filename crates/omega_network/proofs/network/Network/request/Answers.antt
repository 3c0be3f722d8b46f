use Rattle.std.proofs.Common.{ap, ◌∙◌}
use Rattle.std.specs.Prelude.{slice_get}
use Rattle.omega_network.proofs.Taken.{before_is, queues_are, requests, within}
use Rattle.omega_network.proofs.network.Network.request.Goals as goal

pub request-requires : goal.request-requires
request-requires c = within requests (queues_are c.self.view_is c.self.invariant c.requires.stage c.requires.wire c.place-queue.ensures.exact)

pub returns : goal.returns
returns c = c.request.ensures ∙ ap (λ xs. slice_get xs c.args.place)
    (before_is requests (queues_are c.self.view_is c.self.invariant c.requires.stage c.requires.wire c.place-queue.ensures.exact))
