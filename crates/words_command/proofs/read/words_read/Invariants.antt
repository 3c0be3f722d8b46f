use Rattle.std.proofs.Common.{◌≡◌, ◌≤◌, length}
use Rattle.words_command.specs.HexText.{lines_of, words_of_lines, words_of_text}
use Rattle.words_command.proofs.Lines.{prepended}
use Rattle.words_command.proofs.read.words_read.Given as goal

abbrev pub invariant-loop-rest : goal.invariant-loop-rest
invariant-loop-rest l = record {
  read : words_of_text l.fn.text ≡ prepended l.words.items (words_of_lines (length l.words.items) (lines_of l.rest));
  room : length l.words.items ≤ 16384;
}

abbrev pub decreases-loop-rest : goal.decreases-loop-rest
decreases-loop-rest l = length l.rest
