use Rattle.std.proofs.Common.{◌∙◌}
use Rattle.std.specs.Prelude.{◌+◌, [], replicate}
use Rattle.combining_switch.proofs.Pools.{new_pool}
use Rattle.combining_switch.proofs.pool.Pool.new.Goals as goal

pub returns : goal.returns
returns c = rw c.from-4.ensures
    (new_pool c.resize.new.self.items c.args.cells c.args.requests c.args.replies c.in_ok-new.field-0
    (c.in_ok-new.ensures ∙ (λ i. record { cells = c.args.cells; queues = replicate (c.from-2.ensures i + c.from-3.ensures i) [] })))
