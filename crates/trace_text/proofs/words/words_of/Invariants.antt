use Rattle.std.proofs.Common.{◌≡◌, ◌++◌, length, map}
use Rattle.std.specs.Prelude.{filter}
use Rattle.std.specs.List.{slice_split}
use Rattle.asm_lines.specs.Text.{is_blank}
use Rattle.trace_text.specs.Words.{is_word, words_of}
use Rattle.trace_text.proofs.words.words_of.Given as goal

-- The words so far, followed by those of the rest, are all words.
abbrev pub invariant-loop-part : goal.invariant-loop-part
invariant-loop-part l = map (λ word. word.now) l.words.items ++ filter is_word (slice_split is_blank l.rest) ≡ words_of l.line

abbrev pub decreases-loop-part : goal.decreases-loop-part
decreases-loop-part l = length l.rest
