use Rattle.std.proofs.Common.{suc, Some, None, sym, ap, ◌∙◌}
use Rattle.combining_switch.specs.Cells.{request_in}
use Rattle.combining_switch.proofs.Pools.{cell_within, request_get, request_queue, leader_there}
use Rattle.combining_switch.proofs.pool.Pool.request_after.Goals as goal

pub number_after-requires-clause-there : goal.number_after-requires-clause-there
number_after-requires-clause-there c = leader_there c.self.inside.cells.items c.self.inside.request_queues c.self.inside.links c.args.self.now c.args.queue
    c.args.place c.args.leader c.self.view_is (request_queue c.self.inside.cells.items c.self.inside.request_queues c.self.inside.links c.args.self.now
    c.args.queue c.self.view_is c.self.invariant c.requires.queue).0 c.requires.there

pub returns-in_err-next : goal.returns-in_err-next
returns-in_err-next c = c.from_residual.ensures ∙ request_get c.self.inside.cells.items c.self.inside.request_queues c.self.inside.links c.args.self.now
    c.args.queue (suc c.args.place) None c.self.view_is (request_queue c.self.inside.cells.items c.self.inside.request_queues c.self.inside.links
    c.args.self.now c.args.queue c.self.view_is c.self.invariant c.requires.queue).0 (sym c.in_err-next.was ∙ c.number_after.ensures)

pub request_in-requires : goal.request_in-requires
request_in-requires c = rw c.deref.ensures.value
    (cell_within c.self.inside.cells.items c.self.inside.request_queues c.self.inside.links c.args.queue (suc c.args.place) c.in_ok-next.next
    c.self.invariant c.are_apart.ensures (sym c.number_after.ensures ∙ c.in_ok-next.was))

pub returns : goal.returns
returns c =
    ap Some c.request_in.ensures ∙ ap (λ cells. Some (request_in cells c.in_ok-next.next)) c.deref.ensures.value
    ∙ request_get c.self.inside.cells.items c.self.inside.request_queues c.self.inside.links c.args.self.now c.args.queue (suc c.args.place) (Some
    c.in_ok-next.next) c.self.view_is (request_queue c.self.inside.cells.items c.self.inside.request_queues c.self.inside.links c.args.self.now
    c.args.queue c.self.view_is c.self.invariant c.requires.queue).0 (sym c.in_ok-next.was ∙ c.number_after.ensures)
