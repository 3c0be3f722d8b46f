-- Products of words: their halves are words, and together they are the whole product.
use Rattle.std.proofs.Common.{◌≡◌, ℕ, ◌+◌, ◌-◌, ◌*◌, ◌/◌, ◌%◌, ◌^◌, ◌<◌, ◌≤◌, ℤ, pos, negsuc, ◌*ℤ◌, sym, ap, ◌∙◌, arith}
use Rattle.std.specs.Prelude.{unsigned_abs}
use Rattle.std.specs.Int.{w32, w64, cast_signed, cast_unsigned, int_wrap}
use Rattle.std.specs.Int.RustNames.{FitsSigned}
use Rattle.std.proofs.lemmas.Int.{fits_signed_mul, int_wrap-mul_right, of_z-to_z, to_z-of_z, wrapping_mul-bits}
use Rattle.std.proofs.lemmas.Nat.{div_below, mul-lt}
use Rattle.flat_machine.specs.Words.{signed, upper}

-- ---- ranges

-- In two's complement, a word has an absolute value of at most 2^31.
pub signed_size : (a : ℕ) → a < 2 ^ 32 → unsigned_abs (signed a) ≤ 2 ^ 31
signed_size a h = grind arith

-- The product of two words in two's complement fits in 64 bits with a sign.
pub signed_product_fits : (a b : ℕ) → a < 2 ^ 32 → b < 2 ^ 32 → FitsSigned w64 (signed a *ℤ signed b)
signed_product_fits a b h g = fits_signed_mul w64 (signed a) (signed b) (2 ^ 31) (2 ^ 31) (signed_size a h) (signed_size b g) (omega arith)

-- The product of a word in two's complement and a natural number below 2^32 fits in 64 bits with a sign.
pub mixed_product_fits : (a b : ℕ) → a < 2 ^ 32 → b < 2 ^ 32 → FitsSigned w64 (signed a *ℤ pos b)
mixed_product_fits a b h g = fits_signed_mul w64 (signed a) (pos b) (2 ^ 31) (2 ^ 32 - 1) (signed_size a h) (omega arith) (omega arith)

upper_small_of : (z : ℤ) → FitsSigned w64 z → cast_unsigned w64 z / 2 ^ 32 < 2 ^ 32
upper_small_of (pos n) fits = omega (arith, fits.sfits)
upper_small_of (negsuc n) fits = omega arith

-- The upper half of a product that fits in 64 bits with a sign is a word.
pub upper_small : (z : ℤ) → FitsSigned w64 z → upper z < 2 ^ 32
unfolding upper
upper_small z fits = upper_small_of z fits

-- The upper half of the product of two words as natural numbers is a word.
pub upper_of_naturals_small : (a b : ℕ) → a < 2 ^ 32 → b < 2 ^ 32 → a * b / 2 ^ 32 < 2 ^ 32
upper_of_naturals_small a b h g = div_below (a * b) (2 ^ 32) (2 ^ 32) (omega arith) (mul-lt a b (2 ^ 32) (2 ^ 32) h g)

-- ---- the low half is the same for all kinds of factors

-- A word that is a number wrapped to 32 bits is the low half of that number in 64 bits.
low_bits : (z : ℤ) (n : ℕ) → FitsSigned w64 z → n < 2 ^ 32 → signed n ≡ int_wrap w32 z → n ≡ cast_unsigned w64 z % 2 ^ 32
unfolding int_wrap
low_bits (pos m) n fits small e =
    sym (of_z-to_z w32 n small) ∙ ap (cast_unsigned w32) e ∙ of_z-to_z w32 (m % 2 ^ 32) (omega arith)
low_bits (negsuc m) n fits small e =
    sym (of_z-to_z w32 n small) ∙ ap (cast_unsigned w32) e ∙ of_z-to_z w32 (2 ^ 32 - 1 - m % 2 ^ 32) (omega arith) ∙ omega (arith, fits.sfits)

-- The upper and the low half of a number are together the number.
joined : (z : ℤ) (low : ℕ) → FitsSigned w64 z → low ≡ cast_unsigned w64 z % 2 ^ 32 → cast_signed w64 (upper z * 2 ^ 32 + low) ≡ z
unfolding upper
joined z low fits e =
    let whole : cast_unsigned w64 z / 2 ^ 32 * 2 ^ 32 + low ≡ cast_unsigned w64 z = omega arith in
    ap (cast_signed w64) whole ∙ to_z-of_z w64 z fits

-- The two halves of the product of two words in two's complement are together that product.
pub signed_halves : (a b : ℕ) → a < 2 ^ 32 → b < 2 ^ 32 →
    cast_signed w64 (upper (signed a *ℤ signed b) * 2 ^ 32 + a * b % 2 ^ 32) ≡ signed a *ℤ signed b
signed_halves a b h g =
    let fits = signed_product_fits a b h g in
    let product = signed a *ℤ signed b in
    joined product (a * b % 2 ^ 32) fits (low_bits product (a * b % 2 ^ 32) fits (omega arith) (wrapping_mul-bits w32 a b h g))

-- A word as a natural number, wrapped to 32 bits, is the word in two's complement.
pub wrapped_word : (b : ℕ) → b < 2 ^ 32 → int_wrap w32 (pos b) ≡ signed b
unfolding int_wrap
wrapped_word b h = ap signed (let e : b % 2 ^ 32 ≡ b = omega arith in e)

-- The two halves of the product of a word in two's complement and a natural number are together that product.
pub mixed_halves : (a b : ℕ) → a < 2 ^ 32 → b < 2 ^ 32 →
    cast_signed w64 (upper (signed a *ℤ pos b) * 2 ^ 32 + a * b % 2 ^ 32) ≡ signed a *ℤ pos b
mixed_halves a b h g =
    let fits = mixed_product_fits a b h g in
    let same : int_wrap w32 (signed a *ℤ signed b) ≡ int_wrap w32 (signed a *ℤ pos b) =
    ap (λ y. int_wrap w32 (signed a *ℤ y)) (sym (wrapped_word b g)) ∙ int_wrap-mul_right w32 (signed a) (pos b) in
    let product = signed a *ℤ pos b in
    joined product (a * b % 2 ^ 32) fits (low_bits product (a * b % 2 ^ 32) fits (omega arith) (wrapping_mul-bits w32 a b h g ∙ same))
