use Rattle.std.proofs.Common.{List, sym, ap, ◌∙◌}
use Rattle.combining_switch.specs.declared.pool.Cell.{Cell}
use Rattle.combining_switch.specs.Cells.{request_in}
use Rattle.combining_switch.proofs.Pools.{cell_within, popped_request, request_below, request_freed, request_queue}
use Rattle.combining_switch.proofs.pool.Pool.pop_request.Goals as goal

pub request_in-requires : goal.request_in-requires
request_in-requires c = rw c.deref.ensures.value
    (cell_within c.self.inside.cells.items c.self.inside.request_queues c.self.inside.links c.args.queue 0 c.in_ok-leader.leader c.self.invariant
    c.are_apart.ensures (sym c.pop.ensures.first ∙ c.in_ok-leader.was))

pub returns-clause-after : goal.returns-clause-after
returns-clause-after c = popped_request c.self.inside.cells.items c.self.inside.request_queues c.self.inside.links c.args.self.now c.pop.new.self
    c.args.queue c.self.view_is (request_queue c.self.inside.cells.items c.self.inside.request_queues c.self.inside.links c.args.self.now c.args.queue
    c.self.view_is c.self.invariant c.requires).0 c.pop.ensures.after

pub returns-clause-cell : goal.returns-clause-cell
returns-clause-cell c =
    let cells : List Cell = c.self.inside.cells.items in
    request_below cells c.self.inside.request_queues c.self.inside.links c.args.self.now c.args.queue 0 c.in_ok-leader.leader c.request_in.result
    c.self.view_is c.are_apart.ensures (sym c.pop.ensures.first ∙ c.in_ok-leader.was)
    (c.request_in.ensures ∙ ap (λ (cs : List Cell). request_in cs c.in_ok-leader.leader) c.deref.ensures.value)

pub returns-clause-freed : goal.returns-clause-freed
returns-clause-freed c =
    let cells : List Cell = c.self.inside.cells.items in
    request_freed cells c.self.inside.request_queues c.self.inside.links c.pop.new.self c.args.queue c.in_ok-leader.leader c.request_in.result
    c.are_apart.ensures (request_queue cells c.self.inside.request_queues c.self.inside.links c.args.self.now c.args.queue c.self.view_is
    c.self.invariant c.requires).1 (sym c.pop.ensures.first ∙ c.in_ok-leader.was) c.pop.ensures.after
    (c.request_in.ensures ∙ ap (λ (cs : List Cell). request_in cs c.in_ok-leader.leader) c.deref.ensures.value)
