use Rattle.std.proofs.Common.{[], ◌∷◌, ◌++◌, arith, sym, ap, ◌∙◌}
use Rattle.messages.specs.Moves.{injected}
use Rattle.messages.specs.Network.{put_requests}
use Rattle.omega_network.specs.Networks.{net_of, requests_before}
use Rattle.omega_network.proofs.Taken.{injected_may, put_kept, put_net, queues_are, requests, within}
use Rattle.omega_network.proofs.network.Network.inject.Goals as goal

pub push_request-requires : goal.push_request-requires
push_request-requires c =
    let may = injected_may c.args.request c.self.view_is c.self.invariant c.requires.leader c.requires.processor c.requires.unnamed in
    record {
      queue = within requests (queues_are c.self.view_is c.self.invariant (omega arith) c.requires.processor c.place-queue.ensures.exact);
      cell = may.below;
      free = may.free;
    }

pub invariant_of-self : goal.invariant_of-self
invariant_of-self c =
    put_kept requests (queues_are c.self.view_is c.self.invariant (omega arith) c.requires.processor c.place-queue.ensures.exact) _ c.push_request.ensures
    (injected_may c.args.request c.self.view_is c.self.invariant c.requires.leader c.requires.processor c.requires.unnamed)

pub returns-clause-after : goal.returns-clause-after
unfolding injected
returns-clause-after c =
    put_net requests (queues_are c.self.view_is c.self.invariant (omega arith) c.requires.processor c.place-queue.ensures.exact) _ c.push_request.ensures
    ∙ ap (λ p. put_requests (net_of c.args.self.now) 0 p (requests_before c.args.self.now 0 p ++ c.args.request ∷ [])) (sym c.requires.leader)
