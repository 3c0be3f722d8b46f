use Rattle.std.proofs.Common.{◌+◌, ◌∙◌, ap, arith, subst, sym}
use Rattle.observed_results.specs.Parts.{AreFirsts, PartLists}
use Rattle.observed_results.proofs.ObservedParts.{part_there}
use Rattle.observed_results.proofs.parts.Parts.first_with.Goals as goal

pub returns-clause-first : goal.returns-clause-first
returns-clause-first c = λ marks results parts.
    let before = c.in-Some.ensures in
    let places = c.deref.ensures.value ∙ ap (λ (s : PartLists). s.places) c.self.view_is in
    part_there marks results c.args.self.now.texts c.deref.result.now c.in-Some.before c.args.number
    (c.in-Some-get.place.now + 1) (omega (arith, before)) c.in-Some-get.ensures.lookup.3.0
    (ap (λ n. n + 1) (c.in-Some-get.ensures.lookup.3.1 0)) parts.are
    (subst (AreFirsts marks results c.args.self.now.texts) (sym places) parts.firsts)
