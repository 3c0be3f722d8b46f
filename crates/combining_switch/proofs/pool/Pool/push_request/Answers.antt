use Rattle.std.proofs.Common.{◌≡◌, ◌<◌, length, ap, arith}
use Rattle.combining_switch.specs.Pools.{PoolLists}
use Rattle.combining_switch.proofs.Pools.{pushed_request, request_queue, request_written, unlinked_is}
use Rattle.combining_switch.proofs.pool.Pool.push_request.Goals as goal

pub push-requires-clause-free : goal.push-requires-clause-free
push-requires-clause-free c = unlinked_is c.self.inside.cells.items c.self.inside.request_queues c.self.inside.links c.args.self.now c.args.request.leader
    c.self.view_is c.requires.free

pub returns : goal.returns
returns c =
    let each : length c.self.inside.cells.items ≡ c.self.inside.links.cells = c.self.invariant.each_cell in
    let all : c.self.inside.links.cells ≡ c.args.self.now.cells = ap (λ (p : PoolLists). p.cells) c.self.view_is in
    let below : c.args.request.leader < c.args.self.now.cells = c.requires.cell in
    rw (c.from.ensures, c.cell_of.ensures)
    (pushed_request c.self.inside.cells.items c.self.inside.request_queues c.self.inside.links c.args.self.now c.push.new.self c.args.queue c.args.request
    _ c.self.view_is (request_queue c.self.inside.cells.items c.self.inside.request_queues c.self.inside.links c.args.self.now c.args.queue c.self.view_is
    c.self.invariant c.requires.queue).0
    (unlinked_is c.self.inside.cells.items c.self.inside.request_queues c.self.inside.links c.args.self.now c.args.request.leader c.self.view_is
    c.requires.free) (request_written c.self.inside.cells.items c.args.request 0 (omega arith)) c.push.ensures)
