use Rattle.std.proofs.Common.{◌++◌, List, ℕ, length, ap, ◌∙◌, arith}
use Rattle.std.specs.Prelude.{string_bytes}
use Rattle.exploration.specs.local_reduction.Results.{FinalResult}
use Rattle.exploration.specs.state_store.declared.sparse_words.NonzeroWord.{NonzeroWord}
use Rattle.observed_results.specs.Lines.{lines_by, observed_line}
use Rattle.observed_results.proofs.Words.{lines_are, lines_more, no_lines, nonzero_lines, unobserved}
use Rattle.observed_results.proofs.parts.push_observed.Goals as goal

pub loop-word-preserved : goal.loop-word-preserved
loop-word-preserved c =
    let line = observed_line c.args.words.now in
    lines_more line c.nonzero-word-items.result.now c.loop-word.word-index (record { place = 0; value = 0 })
    (string_bytes c.loop-word.text) (string_bytes c.push_if_observed.new.text)
    (string_bytes c.args.text.now ++ nonzero_lines line c.nonzero-word-items.result.now) (omega arith)
    c.in_ok-push_if_observed.ensures c.loop-word.invariant

pub returns : goal.returns
returns c =
    let line = observed_line c.args.words.now in
    let words = c.nonzero-word-items.result.now in
    no_lines line words c.loop-word.word-index (string_bytes c.loop-word.text)
    (string_bytes c.args.text.now ++ nonzero_lines line words) c.loop-word-test.false c.loop-word.invariant
    ∙ (ap (λ (ws : List NonzeroWord). string_bytes c.args.text.now ++ nonzero_lines line ws) c.nonzero-word-items.ensures
    ∙ (ap (λ (lines : List ℕ). string_bytes c.args.text.now ++ lines)
    (lines_are line (unobserved c.args.words.now) c.last.inside.words)
    ∙ ap (λ (r : FinalResult). string_bytes c.args.text.now ++ lines_by line r.words (length r.words)) c.last.view_is))
