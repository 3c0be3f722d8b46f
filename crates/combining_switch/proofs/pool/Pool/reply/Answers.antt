use Rattle.std.proofs.Common.{◌+◌, Some, None, sym, ap, ◌∙◌, arith}
use Rattle.combining_switch.specs.Cells.{reply_in}
use Rattle.combining_switch.proofs.Pools.{cell_within, reply_get, reply_queue_few}
use Rattle.combining_switch.proofs.pool.Pool.reply.Goals as goal

pub overflow_add-self-inside : goal.overflow_add-self-inside
overflow_add-self-inside c = omega (
  arith,
  reply_queue_few c.self.inside.cells.items c.self.inside.request_queues c.self.inside.links c.args.self.now
      c.args.queue c.self.view_is c.self.invariant c.requires,
)

pub returns-in_err-leader : goal.returns-in_err-leader
returns-in_err-leader c = c.from_residual.ensures ∙ reply_get c.self.inside.cells.items c.self.inside.request_queues c.self.inside.links c.args.self.now
    c.args.queue c.args.place None c.self.view_is (sym c.in_err-leader.was ∙ c.get.ensures)

pub reply_in-requires : goal.reply_in-requires
reply_in-requires c = rw c.deref.ensures.value
    (cell_within c.self.inside.cells.items c.self.inside.request_queues c.self.inside.links (c.self.inside.request_queues + c.args.queue) c.args.place
    c.in_ok-leader.leader c.self.invariant c.are_apart.ensures (sym c.get.ensures ∙ c.in_ok-leader.was))

pub returns : goal.returns
returns c =
    ap Some c.reply_in.ensures ∙ ap (λ cells. Some (reply_in cells c.in_ok-leader.leader)) c.deref.ensures.value
    ∙ reply_get c.self.inside.cells.items c.self.inside.request_queues c.self.inside.links c.args.self.now c.args.queue c.args.place (Some
    c.in_ok-leader.leader) c.self.view_is (sym c.in_ok-leader.was ∙ c.get.ensures)
