use Rattle.std.proofs.Common.{◌≡◌, true, false, refl, arith}
use Rattle.combining_switch.proofs.Lists.{no_queue_has}
use Rattle.combining_switch.proofs.links.Links.is_unlinked.Goals as goal

pub returns-then-has : goal.returns-then-has
returns-then-has c = (
  (λ t. absurd (let no : false ≡ true = t in cc)),
  (λ out. absurd (out c.loop-queue.queue (c.has.ensures.0 c.if-has.true))),
)

pub returns : goal.returns
returns c = (
  (λ t. no_queue_has c.args.self.now c.args.number c.loop-queue.queue c.loop-queue.invariant (omega (arith, c.queue_count-queue-end.ensures))),
  (λ out. refl),
)
