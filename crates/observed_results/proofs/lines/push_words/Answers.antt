use Rattle.std.proofs.Common.{◌++◌, List, ℕ, length, refl, ap, ◌∙◌, arith}
use Rattle.std.specs.Prelude.{string_bytes}
use Rattle.command_io.specs.Lines.{word_lines}
use Rattle.exploration.specs.local_reduction.Results.{FinalResult}
use Rattle.exploration.specs.state_store.declared.sparse_words.NonzeroWord.{NonzeroWord}
use Rattle.observed_results.specs.Lines.{shared_lines}
use Rattle.observed_results.proofs.Words.{lines_are, lines_more, no_lines, nonzero_lines}
use Rattle.observed_results.proofs.lines.push_words.Goals as goal

pub loop-word-preserved : goal.loop-word-preserved
loop-word-preserved c =
    lines_more word_lines c.nonzero-word-items.result.now c.loop-word.word-index (record { place = 0; value = 0 })
    (string_bytes c.loop-word.text) (string_bytes c.push_shared_word.new.text)
    (string_bytes c.args.text.now ++ nonzero_lines word_lines c.nonzero-word-items.result.now) (omega arith)
    c.in_ok-push_shared_word.ensures c.loop-word.invariant

pub returns : goal.returns
returns c =
    let words = c.nonzero-word-items.result.now in
    no_lines word_lines words c.loop-word.word-index (string_bytes c.loop-word.text)
    (string_bytes c.args.text.now ++ nonzero_lines word_lines words) c.loop-word-test.false c.loop-word.invariant
    ∙ (ap (λ (ws : List NonzeroWord). string_bytes c.args.text.now ++ nonzero_lines word_lines ws) c.nonzero-word-items.ensures
    ∙ (ap (λ (lines : List ℕ). string_bytes c.args.text.now ++ lines) (lines_are word_lines (λ place. refl) c.last.inside.words)
    ∙ ap (λ (r : FinalResult). string_bytes c.args.text.now ++ shared_lines r.words (length r.words)) c.last.view_is))
