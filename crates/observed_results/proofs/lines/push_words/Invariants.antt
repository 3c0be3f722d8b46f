use Rattle.std.proofs.Common.{◌≡◌, ◌++◌, drop}
use Rattle.std.specs.Prelude.{string_bytes}
use Rattle.command_io.specs.Lines.{word_lines}
use Rattle.observed_results.proofs.Words.{nonzero_lines}
use Rattle.observed_results.proofs.lines.push_words.Given as goal

abbrev pub invariant-loop-word : goal.invariant-loop-word
invariant-loop-word l =
    string_bytes l.text ++ nonzero_lines word_lines (drop l.word-index l.word-items)
    ≡ string_bytes l.initial.text ++ nonzero_lines word_lines l.word-items
