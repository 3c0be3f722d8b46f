use Rattle.std.proofs.Common.{◌≡◌, ◌<◌, length, Some, arith}
use Rattle.std.specs.Prelude.{slice_get}
use Rattle.combining_switch.specs.Links.{queue_at}
use Rattle.combining_switch.proofs.Pools.{cell_within, leader_there, replaced, request_queue, request_written}
use Rattle.combining_switch.proofs.pool.Pool.replace.Goals as goal

pub index_mut-requires : goal.index_mut-requires
index_mut-requires c =
    let there : slice_get (queue_at c.self.inside.links c.args.queue) c.args.place ≡ Some c.args.request.leader =
    leader_there c.self.inside.cells.items c.self.inside.request_queues c.self.inside.links c.args.self.now c.args.queue c.args.place c.args.request.leader
    c.self.view_is (request_queue c.self.inside.cells.items c.self.inside.request_queues c.self.inside.links c.args.self.now c.args.queue c.self.view_is
    c.self.invariant c.requires.queue).0 c.requires.there in
    let below : c.args.request.leader < length c.self.inside.cells.items =
    cell_within c.self.inside.cells.items c.self.inside.request_queues c.self.inside.links c.args.queue c.args.place c.args.request.leader c.self.invariant
    c.are_apart.ensures there in
    omega arith

pub returns : goal.returns
returns c =
    let there : slice_get (queue_at c.self.inside.links c.args.queue) c.args.place ≡ Some c.args.request.leader =
    leader_there c.self.inside.cells.items c.self.inside.request_queues c.self.inside.links c.args.self.now c.args.queue c.args.place c.args.request.leader
    c.self.view_is (request_queue c.self.inside.cells.items c.self.inside.request_queues c.self.inside.links c.args.self.now c.args.queue c.self.view_is
    c.self.invariant c.requires.queue).0 c.requires.there in
    let below : c.args.request.leader < length c.self.inside.cells.items =
    cell_within c.self.inside.cells.items c.self.inside.request_queues c.self.inside.links c.args.queue c.args.place c.args.request.leader c.self.invariant
    c.are_apart.ensures there in
    rw (c.from.ensures, c.cell_of.ensures)
    (replaced c.self.inside.cells.items c.self.inside.request_queues c.self.inside.links c.args.self.now c.args.queue c.args.place c.args.request _
    c.self.view_is c.are_apart.ensures (request_queue c.self.inside.cells.items c.self.inside.request_queues c.self.inside.links c.args.self.now
    c.args.queue c.self.view_is c.self.invariant c.requires.queue).0 there (request_written c.self.inside.cells.items c.args.request 0 below))
