-- Numbers and bytes in hex digits of either case, and the parts of a line around a space.
use Rattle.std.specs.Prelude.{ℕ, ◌+◌, ◌*◌, List, [], ◌∷◌, length, Option, Some, None, nat_le, ◌==◌, ◌&&◌, if◌then◌else◌}
use Rattle.std.specs.Prelude.{option_and_then, Result, Ok, Err}
use Rattle.hex.specs.Hex.{hex_digit_value, decode_of}
use Rattle.hex.specs.declared.error.FromHexError.{FromHexError}

-- the number read from digits, after digits read as n
abbrev pub number_from : ℕ → List ℕ → Option ℕ
number_from n [] = Some n
number_from n (b ∷ digits) = option_and_then (λ d. number_from (16 * n + d) digits) (hex_digit_value b)

-- the number read from one to eight digits
unfoldable pub number_of : List ℕ → Option ℕ
number_of digits = if nat_le 1 (length digits) && nat_le (length digits) 8 then number_from 0 digits else None

-- the parts of a line, with a byte put before the first part
abbrev pub onto_word : ℕ → List ℕ × Option (List ℕ) → List ℕ × Option (List ℕ)
onto_word b parts = (b ∷ parts.0, parts.1)

-- the bytes before the first space, and those after it if there is one
abbrev pub cut_at_space : List ℕ → List ℕ × Option (List ℕ)
cut_at_space [] = ([], None)
cut_at_space (b ∷ bytes) = if b == 32 then ([], Some bytes) else onto_word b (cut_at_space bytes)

-- a number, and what follows the space after it
unfoldable pub operand_of : List ℕ → Option (ℕ × List ℕ)
operand_of bytes =
    option_and_then (λ rest. option_and_then (λ n. Some (n, rest)) (number_of (cut_at_space bytes).0))
    (cut_at_space bytes).1

-- the decoded bytes, if there was no error
abbrev pub decoded : Result (List ℕ) FromHexError → Option (List ℕ)
decoded (Ok bytes) = Some bytes
decoded (Err error) = None

-- the bytes read from digits, two for each byte, and at least one byte
unfoldable pub bytes_of : List ℕ → Option (List ℕ)
bytes_of digits = if nat_le 1 (length digits) then decoded (decode_of digits) else None
