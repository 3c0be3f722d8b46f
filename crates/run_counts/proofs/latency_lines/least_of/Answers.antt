use Rattle.std.proofs.Common.{sym, ap, ◌∙◌, arith}
use Rattle.std.specs.Prelude.{fold, min, slice_index}
use Rattle.std.proofs.lemmas.List.{take_all}
use Rattle.std.proofs.lemmas.List.Sums.{fold_more}
use Rattle.run_counts.specs.LatencyLines.{least}
use Rattle.run_counts.proofs.latency_lines.least_of.Goals as goal

pub loop-number-preserved : goal.loop-number-preserved
loop-number-preserved c =
    let xs = c.args.numbers.now in
    let l = c.loop-number in
    c.min-least.ensures
    ∙ ap (λ n. min n (slice_index xs l.number-index)) l.invariant
    ∙ sym (fold_more (λ n x. min n x) (slice_index xs 0) xs l.number-index 0 c.loop-number-test.true)

pub returns : goal.returns
unfolding least
returns c =
    let xs = c.args.numbers.now in
    let l = c.loop-number in
    l.invariant ∙ ap (fold (λ n x. min n x) (slice_index xs 0)) (take_all l.number-index xs (omega arith))
