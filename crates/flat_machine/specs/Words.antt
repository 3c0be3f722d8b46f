-- The arithmetic of 32-bit words, which are numbers below 2^32.
use Rattle.std.specs.Prelude.{ℕ, ◌+◌, ◌-◌, ◌*◌, ◌/◌, ◌%◌, ◌^◌, ℤ, int_div, int_rem, Bool, ◌==◌, ◌&&◌, nat_lt, int_lt}
use Rattle.std.specs.Prelude.{if◌then◌else◌}
use Rattle.std.specs.Int.{w32, w64, cast_signed, cast_unsigned}

-- a sum modulo 2^32
unfoldable pub plus : ℕ → ℕ → ℕ
plus a b = (a + b) % 2 ^ 32

-- a difference modulo 2^32
unfoldable pub minus : ℕ → ℕ → ℕ
minus a b = (a + (2 ^ 32 - b)) % 2 ^ 32

-- a word read as a number in two's complement
abbrev pub signed : ℕ → ℤ
signed a = cast_signed w32 a

-- the upper word of a product, which has 64 bits in two's complement
unfoldable pub upper : ℤ → ℕ
upper product = cast_unsigned w64 product / 2 ^ 32

-- whether this is -2^31 by -1, the only quotient in two's complement that does not fit in a word
abbrev pub overflows : (a b : ℕ) → Bool
overflows a b = a == 2 ^ 31 && b == 2 ^ 32 - 1

-- The quotient in two's complement, rounded towards zero, and its remainder. Division by zero and overflow have results
-- of their own (manual, "Division Operations", the table of division by zero and division overflow).
unfoldable pub quotient : (a b : ℕ) → ℕ
quotient a b =
    if b == 0 then 2 ^ 32 - 1 else
    if overflows a b then 2 ^ 31 else
    cast_unsigned w32 (int_div (signed a) (signed b))

unfoldable pub remainder : (a b : ℕ) → ℕ
remainder a b =
    if b == 0 then a else
    if overflows a b then 0 else
    cast_unsigned w32 (int_rem (signed a) (signed b))

-- a field of `bits` bits as a word, sign-extended
unfoldable pub extended : (bits field : ℕ) → ℕ
extended bits field = if nat_lt field (2 ^ (bits - 1)) then field else field + (2 ^ 32 - 2 ^ bits)

-- whether a word is less than another in two's complement
unfoldable pub is_below : ℕ → ℕ → Bool
is_below a b = int_lt (signed a) (signed b)

abbrev pub flag : Bool → ℕ
flag b = if b then 1 else 0

-- The number of `size` bytes of a word from a byte offset on, and the word with another number there. Bytes within
-- words are little-endian (manual, "Load and Store Instructions").
unfoldable pub part_of : (size offset word : ℕ) → ℕ
part_of size offset word = word / 2 ^ (8 * offset) % 2 ^ (8 * size)

unfoldable pub with_part : (size offset word value : ℕ) → ℕ
with_part size offset word value =
    word / 2 ^ (8 * (offset + size)) * 2 ^ (8 * (offset + size)) + value % 2 ^ (8 * size) * 2 ^
    (8 * offset) + word % 2 ^ (8 * offset)
