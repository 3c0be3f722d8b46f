use Rattle.std.proofs.Common.{◌≡◌, true, false, Some, refl, sym, ap, ◌∙◌, arith}
use Rattle.combining_switch.specs.Links.{queue_at}
use Rattle.combining_switch.proofs.Lists.{In-slice_get, slice_get_In}
use Rattle.combining_switch.proofs.links.Links.has.Goals as goal

pub returns-then-found-number : goal.returns-then-found-number
returns-then-found-number c = (
  (λ t. In-slice_get (queue_at c.args.self.now c.args.queue) c.loop-place.place c.args.number
      (sym c.get.ensures ∙ c.in-Some.is ∙ ap Some c.if-found-number.true)),
  (λ m. refl),
)

pub returns : goal.returns
returns c = (
  (λ t. absurd (let no : false ≡ true = t in cc)),
  (λ m. let h = slice_get_In (queue_at c.args.self.now c.args.queue) c.args.number m in absurd (c.loop-place.invariant h.0 (omega (arith, h.1)) h.2)),
)
