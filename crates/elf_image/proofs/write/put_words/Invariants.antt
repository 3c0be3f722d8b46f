use Rattle.std.proofs.Common.{◌≡◌, ◌+◌, ◌*◌, ◌++◌, take}
use Rattle.arrayvec.specs.ArrayVec.{array_vec_len}
use Rattle.elf_image.specs.Spellings.{words}
use Rattle.elf_image.proofs.write.put_words.Given as goal

-- The header has its old bytes, followed by those of the first numbers.
abbrev pub invariant-loop-word : goal.invariant-loop-word
invariant-loop-word l =
    (l.head.items ≡ l.fn.head.items ++ words (take l.word-index l.numbers)) × (array_vec_len l.head ≡ array_vec_len l.fn.head + 4 * l.word-index)
