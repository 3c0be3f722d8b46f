use Rattle.std.proofs.Common.{◌≡◌, ◌≤◌, ◌+◌, ◌*◌, map}
use Rattle.std.specs.List.{range_with_len, filter}
use Rattle.arrayvec.specs.ArrayVec.{array_vec_len}
use Rattle.elf_image.specs.Headers.{file_header, program_header, is_load}
use Rattle.elf_image.proofs.segment.segments_of.Given as goal

-- The segments are those of the first program headers.
abbrev pub invariant-loop-number : goal.invariant-loop-number
invariant-loop-number l =
    (l.segments.items ≡ filter is_load (map (λ k. program_header l.file ((file_header l.file).e_phoff + 32 * k)) (range_with_len 0 l.number)))
    × (array_vec_len l.segments ≤ l.number)
