use Rattle.std.proofs.Common.{slice_index_or, take, refl, sym, subst, arith}
use Rattle.std.specs.Prelude.{All}
use Rattle.std.proofs.lemmas.List.{take_all, take_more}
use Rattle.std.proofs.lemmas.List.Elements.{All-push}
use Rattle.flat_machine.specs.Limits.{IsWithinLimits}
use Rattle.study_rows.specs.Sizes.{with_size}
use Rattle.study_rows.specs.declared.size.Size.{Size}
use Rattle.study_command.proofs.running.check_sizes.Goals as goal

pub loop-size-preserved : goal.loop-size-preserved
loop-size-preserved c =
    let sizes = c.args.sizes.now in
    let i = c.loop-size.size-index in
    let none : Size = record { k = 0; b = 0; r = 0 } in
    let size = slice_index_or sizes i none in
    subst (All (λ size. IsWithinLimits (with_size c.args.config size))) (sym (take_more sizes i none c.loop-size-test.true))
    (All-push (λ size. IsWithinLimits (with_size c.args.config size)) (take i sizes) size c.loop-size.invariant
    (subst IsWithinLimits c.with_size.ensures.exact (c.if-not-is_within_limits.ensures.0 refl)))

pub returns-clause-right : goal.returns-clause-right
returns-clause-right c = λ wrong.
    let sizes = c.args.sizes.now in
    let all = subst (All (λ size. IsWithinLimits (with_size c.args.config size))) (take_all c.loop-size.size-index sizes (omega arith))
    c.loop-size.invariant in
    wrong.2 (subst (λ size. IsWithinLimits (with_size c.args.config size)) wrong.1.2 (all wrong.1.0 wrong.0 wrong.1.1))
