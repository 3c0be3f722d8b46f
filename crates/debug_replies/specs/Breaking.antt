-- The breaks of a session, as flags of the code words in the order of their addresses.
use Rattle.std.specs.Prelude.{ℕ, ◌/◌, ◌%◌, ◌^◌, Bool, false, ◌&&◌, List, Option, Some, None, slice_index_or, slice_set}
use Rattle.std.specs.Prelude.{if◌then◌else◌}
use Rattle.flat_machine.specs.Memory.{in_code, is_aligned}

-- whether an address is that of a code word: in code, and divisible by 4
abbrev pub is_code_word : (address : ℕ) → Bool
is_code_word address = in_code address && is_aligned 4 address

-- the place of the code word at an address, if there is one
unfoldable pub word_place : (address : ℕ) → Option ℕ
word_place address = if is_code_word address then Some (address % 2 ^ 16 / 4) else None

abbrev pub flag_at : List Bool → Option ℕ → Bool
flag_at flags None = false
flag_at flags (Some place) = slice_index_or flags place false

abbrev pub with_flag_at : List Bool → Option ℕ → Bool → List Bool
with_flag_at flags None flag = flags
with_flag_at flags (Some place) flag = slice_set flags place flag

-- whether there is a break at an address: there is none except at code words
unfoldable pub is_break : List Bool → (address : ℕ) → Bool
is_break flags address = flag_at flags (word_place address)

-- the flags with this one for the code word at an address, if there is one
unfoldable pub with_flag : List Bool → (address : ℕ) → Bool → List Bool
with_flag flags address flag = with_flag_at flags (word_place address) flag
