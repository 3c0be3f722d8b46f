use Rattle.std.proofs.Common.{◌≡◌, ◌++◌, ◌∷◌, [], length, take, sym, ap, subst, ◌∙◌, arith}
use Rattle.std.proofs.Math.Seq.{take-length}
use Rattle.exploration.specs.local_reduction.Results.{FinalResult}
use Rattle.explore_command.specs.Sizes.{IsGreatestStatus, IsGreatestWith}
use Rattle.explore_command.proofs.Statuses.{of_result, taken_more}
use Rattle.explore_command.proofs.greatest.greatest_status.Goals as goal

pub loop-result-preserved : goal.loop-result-preserved
loop-result-preserved c =
    let rs = c.args.results.now in
    let i = c.loop-result.result-index in
    let r = c.result-item.result in
    let processors = c.as_slice.ensures.value ∙ ap (λ (r : FinalResult). r.processors) c.result.view_is in
    let with_it = subst (λ ps. IsGreatestWith c.loop-result.greatest ps c.greatest_in-greatest.result) processors
    c.greatest_in-greatest.ensures in
    let last = taken_more rs i r c.loop-result-test.true ∙ ap (λ x. take i rs ++ x ∷ []) (sym c.result-item.is) in
    subst (λ xs. IsGreatestStatus xs c.greatest_in-greatest.result) (sym last)
    (of_result (take i rs) r c.loop-result.greatest c.greatest_in-greatest.result c.loop-result.invariant with_it)

pub returns : goal.returns
returns c =
    let rs = c.args.results.now in
    let all : c.loop-result.result-index ≡ length rs = omega arith in
    subst (λ xs. IsGreatestStatus xs c.loop-result.greatest) (ap (λ n. take n rs) all ∙ take-length rs) c.loop-result.invariant
