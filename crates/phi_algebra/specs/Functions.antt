-- The function on 32-bit words that a Phi means. Words are numbers below 2^32.
use Rattle.std.specs.Prelude.{◌≡◌, ℕ, ◌+◌, ◌-◌, ◌%◌, ◌^◌, ◌<◌, Bool, false, ◌==◌, ◌&&◌, bit_and, bit_xor}
use Rattle.std.specs.Int.{w32, cast_signed, cast_unsigned}
use Rattle.phi_algebra.specs.declared.phi.Phi.{Phi}
use Rattle.phi_algebra.specs.declared.phi.Phi.TheVariants.{Add, Bits, Clamp, ClampU}
use Rattle.phi_algebra.specs.Ranges.{IsSignedRange, IsUnsignedRange, clamped_signed, clamped_unsigned, is_full_signed}
use Rattle.phi_algebra.specs.Ranges.{is_full_unsigned, is_single_signed, is_single_unsigned}

unfoldable pub apply : Phi → ℕ → ℕ
apply (Add e) x = (x + e) % 2 ^ 32
apply (Bits and xor) x = bit_xor (bit_and x and) xor
apply (Clamp r) x = cast_unsigned w32 (clamped_signed r (cast_signed w32 x))
apply (ClampU r) x = clamped_unsigned r x

-- The invariant of the type: words are below 2^32, and the ends of a range are in order.
abbrev pub IsInRange : Phi → Type 0
IsInRange (Add e) = e < 2 ^ 32
IsInRange (Bits and xor) = (and < 2 ^ 32) × (xor < 2 ^ 32)
IsInRange (Clamp r) = IsSignedRange r
IsInRange (ClampU r) = IsUnsignedRange r

-- The function gives each word back.
abbrev pub IsIdentity : Phi → Type 0
IsIdentity f = (x : ℕ) → x < 2 ^ 32 → apply f x ≡ x

-- The function has this value at every word.
abbrev pub HasValue : Phi → ℕ → Type 0
HasValue f y = (x : ℕ) → x < 2 ^ 32 → apply f x ≡ y

-- The function has one value at all words.
abbrev pub IsConstant : Phi → Type 0
IsConstant f = (y : ℕ) × HasValue f y

-- whether a function is an identity, by its kind
abbrev pub is_identity : Phi → Bool
is_identity (Add e) = e == 0
is_identity (Bits and xor) = (and == 2 ^ 32 - 1) && (xor == 0)
is_identity (Clamp r) = is_full_signed r
is_identity (ClampU r) = is_full_unsigned r

-- whether a function is constant, by its kind; no sum is
abbrev pub is_constant : Phi → Bool
is_constant (Add e) = false
is_constant (Bits and xor) = and == 0
is_constant (Clamp r) = is_single_signed r
is_constant (ClampU r) = is_single_unsigned r
