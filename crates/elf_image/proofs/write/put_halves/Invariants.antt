use Rattle.std.proofs.Common.{◌≡◌, ◌+◌, ◌*◌, ◌++◌, take}
use Rattle.arrayvec.specs.ArrayVec.{array_vec_len}
use Rattle.elf_image.specs.Spellings.{halves}
use Rattle.elf_image.proofs.write.put_halves.Given as goal

-- The header has its old bytes, followed by those of the first numbers.
abbrev pub invariant-loop-half : goal.invariant-loop-half
invariant-loop-half l =
    (l.head.items ≡ l.fn.head.items ++ halves (take l.half-index l.numbers)) × (array_vec_len l.head ≡ array_vec_len l.fn.head + 2 * l.half-index)
