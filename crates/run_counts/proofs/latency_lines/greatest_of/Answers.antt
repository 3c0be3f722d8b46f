use Rattle.std.proofs.Common.{sym, ap, ◌∙◌, arith}
use Rattle.std.specs.Prelude.{fold, max, slice_index}
use Rattle.std.proofs.lemmas.List.{take_all}
use Rattle.std.proofs.lemmas.List.Sums.{fold_more}
use Rattle.run_counts.specs.LatencyLines.{greatest}
use Rattle.run_counts.proofs.latency_lines.greatest_of.Goals as goal

pub loop-number-preserved : goal.loop-number-preserved
loop-number-preserved c =
    let xs = c.args.numbers.now in
    let l = c.loop-number in
    c.max-greatest.ensures
    ∙ ap (λ n. max n (slice_index xs l.number-index)) l.invariant
    ∙ sym (fold_more (λ n x. max n x) 0 xs l.number-index 0 c.loop-number-test.true)

pub returns : goal.returns
unfolding greatest
returns c =
    let xs = c.args.numbers.now in
    let l = c.loop-number in
    l.invariant ∙ ap (fold (λ n x. max n x) 0) (take_all l.number-index xs (omega arith))
