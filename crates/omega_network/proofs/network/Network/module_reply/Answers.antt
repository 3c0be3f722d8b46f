use Rattle.std.proofs.Common.{arith, ap, ◌∙◌}
use Rattle.messages.specs.Moves.{module_replied}
use Rattle.omega_network.specs.Networks.{NetworkLists, place}
use Rattle.omega_network.proofs.Taken.{put_kept, put_net, queues_are, replied_may, replies, within}
use Rattle.omega_network.proofs.network.Network.module_reply.Goals as goal

pub push_reply-requires : goal.push_reply-requires
push_reply-requires c =
    let may = replied_may c.args.reply c.self.view_is c.self.invariant c.requires.leader c.requires.unnamed in
    record {
      queue = within replies (queues_are c.self.view_is c.self.invariant (omega arith) c.requires.at_module
          (c.place-queue.ensures.exact ∙ ap (λ (m : NetworkLists). place c.args.self.now.k m.k c.args.m) c.self.view_is));
      cell = may.below;
      free = may.free;
    }

pub invariant_of-self : goal.invariant_of-self
invariant_of-self c = put_kept replies (queues_are c.self.view_is c.self.invariant (omega arith) c.requires.at_module
    (c.place-queue.ensures.exact ∙ ap (λ (m : NetworkLists). place c.args.self.now.k m.k c.args.m) c.self.view_is)) _ c.push_reply.ensures
    (replied_may c.args.reply c.self.view_is c.self.invariant c.requires.leader c.requires.unnamed)

pub returns-clause-after : goal.returns-clause-after
unfolding module_replied
returns-clause-after c = put_net replies (queues_are c.self.view_is c.self.invariant (omega arith) c.requires.at_module
    (c.place-queue.ensures.exact ∙ ap (λ (m : NetworkLists). place c.args.self.now.k m.k c.args.m) c.self.view_is)) _ c.push_reply.ensures
