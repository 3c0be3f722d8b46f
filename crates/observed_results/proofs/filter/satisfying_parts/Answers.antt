use Rattle.std.proofs.Common.{◌∙◌, ap, sym, arith}
use Rattle.observed_results.specs.Filters.{with_satisfying}
use Rattle.observed_results.specs.Parts.{PartLists}
use Rattle.observed_results.proofs.Filtering.{satisfying_more}
use Rattle.observed_results.proofs.filter.satisfying_parts.Goals as goal

pub loop-place-init : goal.loop-place-init
loop-place-init c = ap (λ (s : PartLists). s.texts) c.new-chosen.ensures

pub loop-place-preserved : goal.loop-place-preserved
loop-place-preserved c =
    let marks = c.args.words.now in
    let condition = c.args.condition.now in
    c.in_ok-add_if_satisfying.ensures
    ∙ (λ j. with_satisfying marks condition (c.loop-place.invariant j) (c.index-results-place.is j))
    ∙ sym (satisfying_more marks condition c.args.results.now c.loop-place.place c.index-results-place.result (omega arith))
