use Rattle.std.proofs.Common.{ap, ◌∙◌, rules}
use Rattle.std.specs.Prelude.{slice_get}
use Rattle.omega_network.proofs.Taken.{before_is, leader_may, queues_are, replies, taken_kept, taken_net, within}
use Rattle.omega_network.proofs.network.Network.take_reply.Goals as goal

pub pop_reply-requires : goal.pop_reply-requires
pop_reply-requires c = within replies (queues_are c.self.view_is c.self.invariant c.requires.stage c.requires.wire c.place-queue.ensures.exact)

pub invariant_of-self : goal.invariant_of-self
invariant_of-self c = taken_kept replies (queues_are c.self.view_is c.self.invariant c.requires.stage c.requires.wire c.place-queue.ensures.exact)
    c.pop_reply.ensures.after

pub returns : goal.returns
returns c =
    let found = queues_are c.self.view_is c.self.invariant c.requires.stage c.requires.wire c.place-queue.ensures.exact in
    let popped = c.pop_reply.ensures in
    record {
      first = popped.first ∙ ap (λ xs. slice_get xs 0) (before_is replies found);
      taken = taken_net replies found popped.after;
      sizes = search rules;
      unnamed = leader_may replies found popped.after c.pop_reply.result popped.first popped.cell popped.freed;
    }
