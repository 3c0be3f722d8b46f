-- The numbers written for fields are in range.
use Rattle.std.proofs.Common.{◌≡◌, ℕ, suc, ◌+◌, ◌-◌, ◌*◌, ◌/◌, ◌^◌, ◌<◌, ◌≤◌, true, refl, arith, inl, inr}
use Rattle.std.specs.Prelude.{ℤ, pos, negsuc, ◌-ℤ◌, int_le, unsigned_abs}
use Rattle.std.proofs.lemmas.Bool.{cases_lt, lt-ltb, le-ltb, le-leb}
use Rattle.std.proofs.lemmas.Int.{ints}
use Rattle.asm_lines.specs.Number.{low_bits}
use Rattle.asm_lines.specs.Written.{signed, offset}

below_zero : (a b : ℕ) → a < b → (pos a -ℤ pos b) ≡ negsuc (b - a - 1)
below_zero a b lt = omega (arith, ints)

-- A property holds of the number of a signed field if it holds for both values of the sign bit.
pub signed_cases : (P : ℤ → Type 0) (sign field : ℕ) → field < 2 * sign → (field < sign → P (pos field)) → (sign ≤ field → P (negsuc (2 * sign - field - 1))) →
    P (signed sign field)
signed_cases P sign field fits low high =
    elim (cases_lt field sign) [
      | inl lt ↦ rw (lt-ltb field sign lt) (low lt)
      | inr le ↦ rw (le-ltb field sign le, below_zero field (2 * sign) fits) (high le)
    ]

module _ (sign field : ℕ) (fits : field < 2 * sign) (small : sign < 2 ^ 31) where
  -- The number of a signed field is below 2^32 in absolute value.
  pub signed_small : unsigned_abs (signed sign field) < 2 ^ 32
  signed_small = signed_cases (λ z. unsigned_abs z < 2 ^ 32) sign field fits (λ lt. omega arith) (λ le. omega arith)

  -- The number of a signed field is not below -(least + 1), if the sign bit weighs at most least + 1.
  pub signed_low : (least : ℕ) → sign ≤ suc least → int_le (negsuc least) (signed sign field) ≡ true
  signed_low least le = signed_cases (λ z. int_le (negsuc least) z ≡ true) sign field fits (λ lt. refl) (λ high. le-leb _ _ (omega arith))

  -- The number of a signed field is at most a bound, if the sign bit weighs at most the bound + 1.
  pub signed_high : (most : ℕ) → sign ≤ suc most → int_le (signed sign field) (pos most) ≡ true
  signed_high most le = signed_cases (λ z. int_le z (pos most) ≡ true) sign field fits (λ lt. le-leb _ _ (omega arith)) (λ high. refl)

-- An offset is even, so it is at most a bound that is one step lower.
pub offset_high : (sign field most : ℕ) → field < 2 * sign → 2 * sign ≤ most + 2 → int_le (offset sign field) (pos most) ≡ true
offset_high sign field most fits le =
    signed_cases (λ z. int_le z (pos most) ≡ true) (2 * sign) (2 * field) (omega arith) (λ lt. le-leb _ _ (omega arith)) (λ high. refl)

-- ---- the low bits of a number are its field

-- The low bits of the number of a signed field of 12 bits are the field.
pub lower_bits : (f : ℕ) → f < 2 ^ 12 → low_bits (2 ^ 12) (signed (2 ^ 11) f) ≡ f
lower_bits f lt = signed_cases (λ z. low_bits (2 ^ 12) z ≡ f) (2 ^ 11) f lt (λ low. omega arith) (λ high. omega arith)

-- The low bits of the number of a field of 20 bits are the field.
pub upper_bits : (f : ℕ) → f < 2 ^ 20 → low_bits (2 ^ 20) (pos f) ≡ f
upper_bits f lt = omega arith

-- The low bits of a branch's offset, without the last one, are its field.
pub branch_bits : (f : ℕ) → f < 2 ^ 12 → low_bits (2 ^ 13) (offset (2 ^ 11) f) / 2 ≡ f
branch_bits f lt = signed_cases (λ z. low_bits (2 ^ 13) z / 2 ≡ f) (2 ^ 12) (2 * f) (omega arith) (λ low. omega arith) (λ high. omega arith)

-- A branch's offset is even.
pub branch_even : (f : ℕ) → f < 2 ^ 12 → low_bits 2 (offset (2 ^ 11) f) ≡ 0
branch_even f lt = signed_cases (λ z. low_bits 2 z ≡ 0) (2 ^ 12) (2 * f) (omega arith) (λ low. omega arith) (λ high. omega arith)

-- The low bits of a jump's offset, without the last one, are its field.
pub jump_bits : (f : ℕ) → f < 2 ^ 20 → low_bits (2 ^ 21) (offset (2 ^ 19) f) / 2 ≡ f
jump_bits f lt = signed_cases (λ z. low_bits (2 ^ 21) z / 2 ≡ f) (2 ^ 20) (2 * f) (omega arith) (λ low. omega arith) (λ high. omega arith)

-- A jump's offset is even.
pub jump_even : (f : ℕ) → f < 2 ^ 20 → low_bits 2 (offset (2 ^ 19) f) ≡ 0
jump_even f lt = signed_cases (λ z. low_bits 2 z ≡ 0) (2 ^ 20) (2 * f) (omega arith) (λ low. omega arith) (λ high. omega arith)
