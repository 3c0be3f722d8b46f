use Rattle.std.proofs.Common.{◌≡◌, ◌+◌, ◌++◌, take}
use Rattle.arrayvec.specs.ArrayVec.{array_vec_len}
use Rattle.elf_image.proofs.write.put.Given as goal

-- The header has its old bytes, followed by the first new ones.
abbrev pub invariant-loop-byte : goal.invariant-loop-byte
invariant-loop-byte l =
    (l.head.items ≡ l.fn.head.items ++ take l.byte-index l.bytes) × (array_vec_len l.head ≡ array_vec_len l.fn.head + l.byte-index)
