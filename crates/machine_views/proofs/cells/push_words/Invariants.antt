use Rattle.std.proofs.Common.{◌≡◌, ◌++◌, take, map}
use Rattle.machine_views.specs.Cells.{word_line}
use Rattle.machine_views.proofs.cells.push_words.Given as goal

abbrev pub invariant-loop-word : goal.invariant-loop-word
invariant-loop-word l =
    l.lines.items ≡ l.initial.lines.items ++ map (word_line l.names) (take l.word-index l.words)
