use Rattle.std.proofs.Common.{List, ◌∙◌, ap, refl, sym, arith}
use Rattle.observed_results.specs.Outcomes.{with_missing}
use Rattle.observed_results.specs.Parts.{PartLists}
use Rattle.observed_results.proofs.Comparing.{missing_more}
use Rattle.observed_results.proofs.comparison.parts_without.Goals as goal

pub loop-place-init : goal.loop-place-init
loop-place-init c = λ others known. ap (λ (s : PartLists). s.texts) c.new-missing.ensures

pub loop-place-preserved : goal.loop-place-preserved
loop-place-preserved c = λ others known.
    let marks = c.args.words.now in
    c.in_ok-add_if_missing.ensures others known
    ∙ (λ j. with_missing marks others (c.loop-place.invariant others known j) (c.index-results-place.is j))
    ∙ sym (missing_more marks others c.args.results.now c.loop-place.place c.index-results-place.result (omega arith))
