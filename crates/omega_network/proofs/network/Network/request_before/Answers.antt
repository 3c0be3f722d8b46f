use Rattle.std.proofs.Common.{ap, ◌∙◌}
use Rattle.std.specs.Prelude.{slice_get}
use Rattle.omega_network.proofs.Taken.{before_is, queues_are, requests, within}
use Rattle.omega_network.proofs.network.Network.request_before.Goals as goal

pub front_request-requires : goal.front_request-requires
front_request-requires c = within requests (queues_are c.self.view_is c.self.invariant c.requires.stage c.requires.wire c.place.ensures.exact)

pub returns : goal.returns
returns c = c.front_request.ensures ∙ ap (λ xs. slice_get xs 0)
    (before_is requests (queues_are c.self.view_is c.self.invariant c.requires.stage c.requires.wire c.place.ensures.exact))
