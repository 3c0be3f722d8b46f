use Rattle.std.proofs.Common.{◌≡◌, ◌++◌, drop}
use Rattle.std.specs.Prelude.{string_bytes}
use Rattle.observed_results.specs.Lines.{observed_line}
use Rattle.observed_results.proofs.Words.{nonzero_lines}
use Rattle.observed_results.proofs.parts.push_observed.Given as goal

abbrev pub invariant-loop-word : goal.invariant-loop-word
invariant-loop-word l =
    string_bytes l.text ++ nonzero_lines (observed_line l.words) (drop l.word-index l.word-items)
    ≡ string_bytes l.initial.text ++ nonzero_lines (observed_line l.words) l.word-items
