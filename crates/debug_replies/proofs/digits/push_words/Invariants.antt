use Rattle.std.proofs.Common.{◌≡◌, ◌+◌, ◌*◌, ◌++◌, length, take}
use Rattle.std.specs.Prelude.{flat_map}
use Rattle.command_io.specs.Digits.{hex_of_word}
use Rattle.debug_replies.proofs.digits.push_words.Given as goal

abbrev pub invariant-loop-word : goal.invariant-loop-word
invariant-loop-word l = record {
  text : l.text.items ≡ l.fn.text.items ++ flat_map hex_of_word (take l.word-index l.words);
  count : length l.text.items ≡ length l.fn.text.items + 8 * l.word-index;
}
