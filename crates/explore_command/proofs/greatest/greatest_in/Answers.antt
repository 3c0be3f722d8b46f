use Rattle.std.proofs.Common.{◌≡◌, ◌++◌, ◌∷◌, [], Some, length, take, sym, ap, subst, ◌∙◌, arith}
use Rattle.std.proofs.Math.Seq.{take-length}
use Rattle.exploration.specs.local_reduction.Results.{ProcessorResult}
use Rattle.explore_command.specs.Sizes.{IsGreatestWith, greater}
use Rattle.explore_command.proofs.Statuses.{of_none, of_more, taken_more}
use Rattle.explore_command.proofs.greatest.greatest_in.Goals as goal

pub loop-processor-init : goal.loop-processor-init
loop-processor-init c = of_none c.args.status

pub loop-processor-preserved : goal.loop-processor-preserved
loop-processor-preserved c =
    let ps = c.args.processors.now in
    let i = c.loop-processor.processor-index in
    let p = c.processor-item.result in
    let now = c.greater.ensures ∙ ap (λ (p : ProcessorResult). greater c.loop-processor.greatest p.status) c.processor.view_is in
    let last = taken_more ps i p c.loop-processor-test.true ∙ ap (λ x. take i ps ++ x ∷ []) (sym c.processor-item.is) in
    subst (λ xs. IsGreatestWith c.args.status xs (Some c.greater.result)) (sym last)
    (subst (λ s. IsGreatestWith c.args.status (take i ps ++ p ∷ []) (Some s)) (sym now)
    (of_more c.args.status (take i ps) p c.loop-processor.greatest c.loop-processor.invariant))

pub returns : goal.returns
returns c =
    let ps = c.args.processors.now in
    let all : c.loop-processor.processor-index ≡ length ps = omega arith in
    subst (λ xs. IsGreatestWith c.args.status xs c.loop-processor.greatest) (ap (λ n. take n ps) all ∙ take-length ps)
    c.loop-processor.invariant
