use Rattle.std.proofs.Common.{Some, None, sym, ap, ◌∙◌}
use Rattle.combining_switch.specs.Cells.{request_in}
use Rattle.combining_switch.proofs.Pools.{cell_within, request_get, request_queue}
use Rattle.combining_switch.proofs.pool.Pool.request.Goals as goal

pub returns-in_err-leader : goal.returns-in_err-leader
returns-in_err-leader c = c.from_residual.ensures ∙ request_get c.self.inside.cells.items c.self.inside.request_queues c.self.inside.links c.args.self.now
    c.args.queue c.args.place None c.self.view_is (request_queue c.self.inside.cells.items c.self.inside.request_queues c.self.inside.links c.args.self.now
    c.args.queue c.self.view_is c.self.invariant c.requires).0 (sym c.in_err-leader.was ∙ c.get.ensures)

pub request_in-requires : goal.request_in-requires
request_in-requires c = rw c.deref.ensures.value
    (cell_within c.self.inside.cells.items c.self.inside.request_queues c.self.inside.links c.args.queue c.args.place c.in_ok-leader.leader
    c.self.invariant c.are_apart.ensures (sym c.get.ensures ∙ c.in_ok-leader.was))

pub returns : goal.returns
returns c =
    ap Some c.request_in.ensures ∙ ap (λ cells. Some (request_in cells c.in_ok-leader.leader)) c.deref.ensures.value
    ∙ request_get c.self.inside.cells.items c.self.inside.request_queues c.self.inside.links c.args.self.now c.args.queue c.args.place (Some
    c.in_ok-leader.leader) c.self.view_is (request_queue c.self.inside.cells.items c.self.inside.request_queues c.self.inside.links c.args.self.now
    c.args.queue c.self.view_is c.self.invariant c.requires).0 (sym c.in_ok-leader.was ∙ c.get.ensures)
