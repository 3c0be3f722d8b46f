use Rattle.std.proofs.Common.{◌+◌, List, sym, ap, ◌∙◌, arith}
use Rattle.combining_switch.specs.declared.pool.Cell.{Cell}
use Rattle.combining_switch.specs.Cells.{reply_in}
use Rattle.combining_switch.proofs.Pools.{cell_within, popped_reply, reply_below, reply_freed, reply_queue, reply_queue_few}
use Rattle.combining_switch.proofs.pool.Pool.pop_reply.Goals as goal

pub overflow_add-self-inside : goal.overflow_add-self-inside
overflow_add-self-inside c = omega (
  arith,
  reply_queue_few c.self.inside.cells.items c.self.inside.request_queues c.self.inside.links c.args.self.now
      c.args.queue c.self.view_is c.self.invariant c.requires,
)

pub reply_in-requires : goal.reply_in-requires
reply_in-requires c = rw c.deref.ensures.value
    (cell_within c.self.inside.cells.items c.self.inside.request_queues c.self.inside.links (c.self.inside.request_queues + c.args.queue) 0
    c.in_ok-leader.leader c.self.invariant c.are_apart.ensures (sym c.pop.ensures.first ∙ c.in_ok-leader.was))

pub returns-clause-after : goal.returns-clause-after
returns-clause-after c = popped_reply c.self.inside.cells.items c.self.inside.request_queues c.self.inside.links c.args.self.now c.pop.new.self
    c.args.queue c.self.view_is c.pop.ensures.after

pub returns-clause-cell : goal.returns-clause-cell
returns-clause-cell c =
    let cells : List Cell = c.self.inside.cells.items in
    reply_below cells c.self.inside.request_queues c.self.inside.links c.args.self.now (c.self.inside.request_queues + c.args.queue) 0 c.in_ok-leader.leader
    c.reply_in.result c.self.view_is c.are_apart.ensures (sym c.pop.ensures.first ∙ c.in_ok-leader.was)
    (c.reply_in.ensures ∙ ap (λ (cs : List Cell). reply_in cs c.in_ok-leader.leader) c.deref.ensures.value)

pub returns-clause-freed : goal.returns-clause-freed
returns-clause-freed c =
    let cells : List Cell = c.self.inside.cells.items in
    reply_freed cells c.self.inside.request_queues c.self.inside.links c.pop.new.self (c.self.inside.request_queues + c.args.queue) c.in_ok-leader.leader
    c.reply_in.result c.are_apart.ensures (reply_queue cells c.self.inside.request_queues c.self.inside.links c.args.self.now c.args.queue c.self.view_is
    c.self.invariant c.requires) (sym c.pop.ensures.first ∙ c.in_ok-leader.was) c.pop.ensures.after
    (c.reply_in.ensures ∙ ap (λ (cs : List Cell). reply_in cs c.in_ok-leader.leader) c.deref.ensures.value)
