-- The bytes and the parts of a word.
use Rattle.std.specs.Prelude.{◌≡◌, ℕ, ◌+◌, ◌/◌, ◌%◌, ◌^◌, ◌<◌, ◌≤◌, List, [], ◌∷◌}
use Rattle.flat_machine.specs.Memory.{number_at, with_number}
use Rattle.flat_machine.specs.Words.{part_of, with_part}

-- the four bytes of a word in memory, the lowest first
abbrev pub word_bytes : ℕ → List ℕ
word_bytes word = word % 2 ^ 8 ∷ word / 2 ^ 8 % 2 ^ 8 ∷ word / 2 ^ 16 % 2 ^ 8 ∷ word / 2 ^ 24 % 2 ^ 8 ∷ []

-- A part of a word is the little-endian number of its bytes there.
abbrev pub PartsAreBytes : Type 0
PartsAreBytes = (size offset word : ℕ) → offset + size ≤ 4 →
    part_of size offset word ≡ number_at (word_bytes word) offset size

-- A word with one part replaced is again a word, and has the bytes of the new number in that part.
abbrev pub NewPartsAreNewBytes : Type 0
NewPartsAreNewBytes =
    (size offset word value : ℕ) → offset + size ≤ 4 → word < 2 ^ 32 →
    (with_part size offset word value < 2 ^ 32) ×
    (word_bytes (with_part size offset word value) ≡ with_number (word_bytes word) offset size value) ×
    (with_part size offset word value ≡ number_at (with_number (word_bytes word) offset size value) 0 4)
