use Rattle.std.proofs.Common.{rules}
use Rattle.hunt_command.proofs.ahead.take_batch.Goals as goal

pub returns : goal.returns
returns g c =
    c.in_order.ensures c.args.hunt c.args.config c.args.image.now
    (λ k d less. let one = (c.in_ok-parts.ensures.each k d (search rules)).1 in one.met)
