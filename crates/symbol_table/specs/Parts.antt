-- Numbers in a file, and parts of it.
use Rattle.std.specs.Prelude.{ℕ, ◌-◌, ◌/◌, ◌==◌, List, drop, length, min, take}
use Rattle.std.specs.List.{slice_split}
use Rattle.byteorder.specs.Endian.{little_number}

-- the number of `size` bytes from a place on, the lowest byte first
unfoldable pub number_at : List ℕ → (place size : ℕ) → ℕ
number_at file place size = little_number size (drop place file)

-- what a file has of the `size` bytes from `start` on
abbrev pub part_of : List ℕ → (start size : ℕ) → List ℕ
part_of file start size = take size (drop start file)

-- how many records of this size end within a file, of `count` that follow each other from `start` on
abbrev pub whole_count : List ℕ → (start size count : ℕ) → ℕ
whole_count file start size count = min count ((length file - start) / size)

-- the parts between the bytes that equal `mark`
abbrev pub parts_at : (mark : ℕ) → List ℕ → List (List ℕ)
parts_at mark bytes = slice_split (λ b. b == mark) bytes
