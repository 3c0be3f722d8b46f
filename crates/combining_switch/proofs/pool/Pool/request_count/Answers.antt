use Rattle.combining_switch.proofs.Pools.{request_count, request_queue}
use Rattle.combining_switch.proofs.pool.Pool.request_count.Goals as goal

pub returns : goal.returns
returns c =
    request_count c.self.inside.cells.items c.self.inside.request_queues c.self.inside.links c.args.self.now c.args.queue c.count.result c.self.view_is
    (request_queue c.self.inside.cells.items c.self.inside.request_queues c.self.inside.links c.args.self.now c.args.queue c.self.view_is c.self.invariant
    c.requires).0
    c.count.ensures
