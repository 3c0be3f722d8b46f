-- Numbers: decimal digits after an optional minus, or 0x and hex digits.
use Rattle.std.specs.Prelude.{◌≡◌, ℕ, ◌+◌, ◌-◌, ◌*◌, ◌%◌, ◌^◌, ◌==◌, ◌&&◌, nat_lt, nat_le, min, List, [], ◌∷◌}
use Rattle.std.specs.Prelude.{Option, Some, None, option_and_then, if◌then◌else◌, ℤ, pos, ◌-ℤ◌, ◌≤ℤ◌, ◌⊎◌, int_le}
use Rattle.std.specs.Prelude.{unsigned_abs, drop, slice_index, ok_or, Result, Ok, Err, IsSomeAnd}
use Rattle.std.specs.Option.{option_map}
use Rattle.std.specs.Int.{w64, cast_unsigned}
use Rattle.asm_lines.specs.declared.fault.LineFault.{LineFault}
use Rattle.asm_lines.specs.declared.fault.LineFault.TheVariants.{Form, Range}
use Rattle.asm_lines.specs.Steps.{◌>>=◌}

-- the value of a digit: 0 to 9, a to f, A to F
abbrev pub digit_of : ℕ → Option ℕ
digit_of b =
    if nat_le 48 b && nat_le b 57 then Some (b - 48)
    else (if nat_le 97 b && nat_le b 102 then Some (b - 97 + 10)
    else (if nat_le 65 b && nat_le b 70 then Some (b - 65 + 10)
    else None))

abbrev pub digit_in : ℕ → ℕ → Option ℕ
digit_in base b = option_and_then (λ d. if nat_lt d base then Some d else None) (digit_of b)

-- the value of digits, the highest first, that follow digits of this value
abbrev pub digits_after : ℕ → ℕ → List ℕ → Option ℕ
digits_after base value [] = Some value
digits_after base value (b ∷ bs) = option_and_then (λ d. digits_after base (value * base + d) bs) (digit_in base b)

-- the value of at least one digit
unfoldable pub digits_in : ℕ → List ℕ → Option ℕ
digits_in base [] = None
digits_in base (b ∷ bs) = digits_after base 0 (b ∷ bs)

abbrev pub minus : ℕ → ℤ
minus n = pos 0 -ℤ pos n

-- the number that is written as the bytes
unfoldable pub number_of : List ℕ → Option ℤ
number_of bytes =
    if slice_index bytes 0 == 45 then option_map minus (digits_in 10 (drop 1 bytes))
    else (if (slice_index bytes 0 == 48)
    && (slice_index bytes 1 == 120) then option_map pos (digits_in 16 (drop 2 bytes))
    else option_map pos (digits_in 10 bytes))

-- the number that is written as the bytes, if it is from `least` to `most`
unfoldable pub number_within : (least most : ℤ) → List ℕ → Result ℤ LineFault
number_within least most bytes = do
  z ← ok_or (number_of bytes) Form
  if int_le least z && int_le z most then Ok z else Err Range

-- the number that is written as the bytes, if it is from 0 to `most`
unfoldable pub natural_within : (most : ℕ) → List ℕ → Result ℕ LineFault
natural_within most bytes = number_within (pos 0) (pos most) bytes >>= λ z. Ok (unsigned_abs z)

-- A signed number modulo a power of 2 that is at most 2^64: its low bits in two's complement.
abbrev pub low_bits : (modulus : ℕ) → ℤ → ℕ
low_bits modulus z = cast_unsigned w64 z % modulus

-- ---- numbers up to a cap

-- a value, or 2^33 if it is larger: no number that large is in any range
abbrev pub capped : Option ℕ → Option ℕ
capped o = option_map (λ v. min v (2 ^ 33)) o

-- The two numbers are the same, or both are at least 2^33, or both are at most -2^33.
abbrev pub IsCapped : ℤ → ℤ → Type 0
IsCapped z c = (z ≡ c) ⊎ (((pos (2 ^ 33) ≤ℤ z) × (pos (2 ^ 33) ≤ℤ c)) ⊎ ((z ≤ℤ minus (2 ^ 33)) × (c ≤ℤ minus (2 ^ 33))))

abbrev pub CapsNumber : List ℕ → Option ℤ → Type 0
CapsNumber bytes None = number_of bytes ≡ None
CapsNumber bytes (Some c) = IsSomeAnd (number_of bytes) (λ z. IsCapped z c)
