use Rattle.std.proofs.Common.{◌≡◌, ◌<◌, length, ap, refl, arith}
use Rattle.combining_switch.specs.Pools.{PoolLists}
use Rattle.combining_switch.proofs.Pools.{pushed_reply, reply_queue_few, reply_written, unlinked_is}
use Rattle.combining_switch.proofs.pool.Pool.push_reply.Goals as goal

pub overflow_add-self-inside : goal.overflow_add-self-inside
overflow_add-self-inside c = omega (
  arith,
  reply_queue_few c.self.inside.cells.items c.self.inside.request_queues c.self.inside.links c.args.self.now
      c.args.queue c.self.view_is c.self.invariant c.requires.queue,
)

pub push-requires-clause-free : goal.push-requires-clause-free
push-requires-clause-free c = unlinked_is c.self.inside.cells.items c.self.inside.request_queues c.self.inside.links c.args.self.now c.args.reply.leader
    c.self.view_is c.requires.free

pub returns : goal.returns
returns c =
    let each : length c.self.inside.cells.items ≡ c.self.inside.links.cells = c.self.invariant.each_cell in
    let all : c.self.inside.links.cells ≡ c.args.self.now.cells = ap (λ (p : PoolLists). p.cells) c.self.view_is in
    let below : c.args.reply.leader < c.args.self.now.cells = c.requires.cell in
    rw c.from.ensures
    (pushed_reply c.self.inside.cells.items c.self.inside.request_queues c.self.inside.links c.args.self.now c.push.new.self c.args.queue c.args.reply _
    c.self.view_is
    (unlinked_is c.self.inside.cells.items c.self.inside.request_queues c.self.inside.links c.args.self.now c.args.reply.leader c.self.view_is
    c.requires.free) (reply_written c.self.inside.cells.items c.args.reply _ (omega arith) refl) c.push.ensures)
