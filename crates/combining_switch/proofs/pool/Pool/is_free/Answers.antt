use Rattle.combining_switch.proofs.Pools.{free_is, unlinked_is}
use Rattle.combining_switch.proofs.pool.Pool.is_free.Goals as goal

pub returns : goal.returns
returns c = (
  (λ t. free_is c.self.inside.cells.items c.self.inside.request_queues c.self.inside.links c.args.self.now c.args.leader c.self.view_is
      (c.is_unlinked.ensures.0 t)),
  (λ f. c.is_unlinked.ensures.1 (unlinked_is c.self.inside.cells.items c.self.inside.request_queues c.self.inside.links c.args.self.now c.args.leader
      c.self.view_is f)),
)
