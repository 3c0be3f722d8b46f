use Rattle.std.proofs.Common.{arith}
use Rattle.combining_switch.proofs.Pools.{reply_count, reply_queue_few}
use Rattle.combining_switch.proofs.pool.Pool.reply_count.Goals as goal

pub overflow_add-self-inside : goal.overflow_add-self-inside
overflow_add-self-inside c = omega (
  arith,
  reply_queue_few c.self.inside.cells.items c.self.inside.request_queues c.self.inside.links c.args.self.now
      c.args.queue c.self.view_is c.self.invariant c.requires,
)

pub returns : goal.returns
returns c = reply_count c.self.inside.cells.items c.self.inside.request_queues c.self.inside.links c.args.self.now c.args.queue c.count.result
    c.self.view_is c.count.ensures
