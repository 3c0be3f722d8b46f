use Rattle.std.proofs.Common.{◌≡◌, take}
use Rattle.words_command.specs.Loading.{bytes_of_words}
use Rattle.words_command.proofs.load.words_layout.Given as goal

abbrev pub invariant-loop-word : goal.invariant-loop-word
invariant-loop-word l = l.code ≡ bytes_of_words (take l.word-index l.words)
