use Rattle.std.proofs.Common.{ap, ◌∙◌, rules}
use Rattle.std.specs.Prelude.{slice_get}
use Rattle.omega_network.proofs.Taken.{before_is, leader_may, queues_are, requests, taken_kept, taken_net, within}
use Rattle.omega_network.proofs.network.Network.take_request.Goals as goal

pub pop_request-requires : goal.pop_request-requires
pop_request-requires c = within requests (queues_are c.self.view_is c.self.invariant c.requires.stage c.requires.wire c.place-queue.ensures.exact)

pub invariant_of-self : goal.invariant_of-self
invariant_of-self c = taken_kept requests (queues_are c.self.view_is c.self.invariant c.requires.stage c.requires.wire c.place-queue.ensures.exact)
    c.pop_request.ensures.after

pub returns : goal.returns
returns c =
    let found = queues_are c.self.view_is c.self.invariant c.requires.stage c.requires.wire c.place-queue.ensures.exact in
    let popped = c.pop_request.ensures in
    record {
      first = popped.first ∙ ap (λ xs. slice_get xs 0) (before_is requests found);
      taken = taken_net requests found popped.after;
      sizes = search rules;
      unnamed = leader_may requests found popped.after c.pop_request.result popped.first popped.cell popped.freed;
    }
