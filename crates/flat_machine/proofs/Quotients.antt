-- Quotients and remainders of words in two's complement are words, and together give the dividend.
use Rattle.std.proofs.Common.{◌≡◌, ◌≢◌, ℕ, zero, suc, ◌+◌, ◌-◌, ◌*◌, ◌/◌, ◌%◌, ◌^◌, ◌<◌, ◌≤◌, ℤ, pos, negsuc, neg_ℤ}
use Rattle.std.proofs.Common.{◌+ℤ◌, ◌*ℤ◌, Bool, true, false, cond, eqb, refl, sym, ap, subst, ◌∙◌, arith}
use Rattle.std.specs.Prelude.{unsigned_abs, int_div, int_rem}
use Rattle.std.specs.Int.{w32, cast_unsigned, int_wrap, is_negative}
use Rattle.std.specs.Int.RustNames.{FitsSigned}
use Rattle.std.proofs.lemmas.Bool.{and_parts, eqb-true, le-ltb, ne_eqb, true≢false}
use Rattle.std.proofs.lemmas.Int.{SFits-int_wrap, int_wrap-add_left, int_wrap_fits, wrapping_add-bits}
use Rattle.std.proofs.lemmas.Int.{wrapping_mul-bits, of_z-to_z, quot-rem, rem_below, to_z-of_z}
use Rattle.std.proofs.lemmas.Nat.{div-add-mod', mod_below}
use Rattle.flat_machine.specs.Words.{overflows, quotient, remainder, signed}
use Rattle.flat_machine.proofs.Products.{signed_size, wrapped_word}

-- ---- absolute values of integers

size_of_negated : (n : ℕ) → unsigned_abs (neg_ℤ (pos n)) ≡ n
size_of_negated zero = refl
size_of_negated (suc n) = refl

quotient_of_naturals : (n d : ℕ) → n / d ≤ n
quotient_of_naturals n zero = omega arith
quotient_of_naturals n (suc d) = omega (arith, div-add-mod' n (suc d))

remainder_of_naturals : (n d : ℕ) → n % d ≤ n
remainder_of_naturals n d = omega (arith, div-add-mod' n d)

-- A quotient and a remainder are no further from zero than the dividend.
quotient_size : (x y : ℤ) → unsigned_abs (int_div x y) ≤ unsigned_abs x
quotient_size (pos a) (pos b) = quotient_of_naturals a b
quotient_size (pos a) (negsuc b) = omega (arith, size_of_negated (a / suc b), quotient_of_naturals a (suc b))
quotient_size (negsuc a) (pos b) = omega (arith, size_of_negated (suc a / b), quotient_of_naturals (suc a) b)
quotient_size (negsuc a) (negsuc b) = quotient_of_naturals (suc a) (suc b)

remainder_size : (x y : ℤ) → unsigned_abs (int_rem x y) ≤ unsigned_abs x
remainder_size (pos a) y = remainder_of_naturals a (unsigned_abs y)
remainder_size (negsuc a) y = omega (arith, size_of_negated (suc a % unsigned_abs y), remainder_of_naturals (suc a) (unsigned_abs y))

-- ---- ranges

word_of_small : (z : ℤ) → unsigned_abs z ≤ 2 ^ 31 → cast_unsigned w32 z < 2 ^ 32
word_of_small (pos n) h = omega arith
word_of_small (negsuc n) h = omega arith

-- The quotient in two's complement is a word if the dividend is one.
pub quotient_small : (a b : ℕ) → a < 2 ^ 32 → quotient a b < 2 ^ 32
unfolding quotient
quotient_small a b h = by (eqb b 0) (overflows a b)
  where
    by : (no_divisor over : Bool) → cond no_divisor (2 ^ 32 - 1) (cond over (2 ^ 31) (cast_unsigned w32 (int_div (signed a) (signed b)))) < 2 ^ 32
    by true over = omega arith
    by false true = omega arith
    by false false = word_of_small (int_div (signed a) (signed b)) (omega (arith, quotient_size (signed a) (signed b), signed_size a h))

-- The remainder in two's complement is a word if the dividend is one.
pub remainder_small : (a b : ℕ) → a < 2 ^ 32 → remainder a b < 2 ^ 32
unfolding remainder
remainder_small a b h = by (eqb b 0) (overflows a b)
  where
    by : (no_divisor over : Bool) → cond no_divisor a (cond over 0 (cast_unsigned w32 (int_rem (signed a) (signed b)))) < 2 ^ 32
    by true over = h
    by false true = omega arith
    by false false = word_of_small (int_rem (signed a) (signed b)) (omega (arith, remainder_size (signed a) (signed b), signed_size a h))

-- The quotient of natural numbers, 2^32 - 1 for a divisor of zero, is a word if the dividend is one.
pub natural_quotient_small : (a b : ℕ) → a < 2 ^ 32 → cond (eqb b 0) (2 ^ 32 - 1) (a / b) < 2 ^ 32
natural_quotient_small a b h = by (eqb b 0)
  where
    by : (no_divisor : Bool) → cond no_divisor (2 ^ 32 - 1) (a / b) < 2 ^ 32
    by true = omega arith
    by false = omega (arith, quotient_of_naturals a b)

-- The remainder of natural numbers, the dividend for a divisor of zero, is a word if the dividend is one.
pub natural_remainder_small : (a b : ℕ) → a < 2 ^ 32 → cond (eqb b 0) a (a % b) < 2 ^ 32
natural_remainder_small a b h = by (eqb b 0)
  where
    by : (no_divisor : Bool) → cond no_divisor a (a % b) < 2 ^ 32
    by true = h
    by false = omega (arith, remainder_of_naturals a b)

-- ---- natural numbers

-- If the divisor is not zero, quotient times divisor plus remainder is the dividend,
-- and the remainder is below the divisor.
pub natural_division : (a b : ℕ) → b ≢ 0 → (cond (eqb b 0) (2 ^ 32 - 1) (a / b) * b + cond (eqb b 0) a (a % b) ≡ a) × (cond (eqb b 0) a (a % b) < b)
natural_division a b some = rw (ne_eqb b 0 some) (div-add-mod' a b, mod_below a b (omega arith))

-- ---- if the quotient is a word

signed_fits : (a : ℕ) → a < 2 ^ 32 → FitsSigned w32 (signed a)
signed_fits a h = subst (FitsSigned w32) (wrapped_word a h) (SFits-int_wrap w32 (pos a))

negated_fits : (n : ℕ) → n ≤ 2 ^ 31 → FitsSigned w32 (neg_ℤ (pos n))
negated_fits zero h = record { sfits = omega arith }
negated_fits (suc n) h = record { sfits = omega arith }

-- A remainder is a word, and so is every quotient but that of -2^31 by -1.
remainder_fits : (x y : ℤ) → FitsSigned w32 x → FitsSigned w32 (int_rem x y)
remainder_fits (pos a) y fits = record { sfits = omega (arith, fits.sfits, remainder_of_naturals a (unsigned_abs y)) }
remainder_fits (negsuc a) y fits = negated_fits (suc a % unsigned_abs y) (omega (arith, fits.sfits, remainder_of_naturals (suc a) (unsigned_abs y)))

quotient_fits : (x y : ℤ) → FitsSigned w32 x → (x ≡ negsuc (2 ^ 31 - 1) → y ≡ negsuc 0 → ⊥) → FitsSigned w32 (int_div x y)
quotient_fits (pos a) (pos b) fits normal = record { sfits = omega (arith, fits.sfits, quotient_of_naturals a b) }
quotient_fits (pos a) (negsuc b) fits normal = negated_fits (a / suc b) (omega (arith, fits.sfits, quotient_of_naturals a (suc b)))
quotient_fits (negsuc a) (pos b) fits normal = negated_fits (suc a / b) (omega (arith, fits.sfits, quotient_of_naturals (suc a) b))
quotient_fits (negsuc a) (negsuc zero) fits normal =
    let other : a ≢ 2 ^ 31 - 1 = λ e. normal (ap negsuc e) refl in
    record { sfits = omega (arith, fits.sfits, div-add-mod' (suc a) 1) }
quotient_fits (negsuc a) (negsuc (suc b)) fits normal =
    record { sfits = omega (arith, fits.sfits, div-add-mod' (suc a) (suc (suc b))) }

-- ---- the quotient and the remainder if the divisor is not zero and the quotient does not overflow

quotient_is : (a b : ℕ) → b ≢ 0 → overflows a b ≡ false → quotient a b ≡ cast_unsigned w32 (int_div (signed a) (signed b))
unfolding quotient
quotient_is a b some normal = rw (ne_eqb b 0 some, normal) refl

remainder_is : (a b : ℕ) → b ≢ 0 → overflows a b ≡ false → remainder a b ≡ cast_unsigned w32 (int_rem (signed a) (signed b))
unfolding remainder
remainder_is a b some normal = rw (ne_eqb b 0 some, normal) refl

-- A word is the cast of the number that it is in two's complement.
word_of : (n : ℕ) (z : ℤ) → n < 2 ^ 32 → signed n ≡ z → n ≡ cast_unsigned w32 z
word_of n z small e = sym (of_z-to_z w32 n small) ∙ ap (cast_unsigned w32) e

no_overflow : (a b : ℕ) → a < 2 ^ 32 → b < 2 ^ 32 → overflows a b ≡ false → signed a ≡ negsuc (2 ^ 31 - 1) → signed b ≡ negsuc 0 → ⊥
no_overflow a b h g normal least minus_one =
    let a_is : a ≡ 2 ^ 31 = word_of a _ h least in
    let b_is : b ≡ 2 ^ 32 - 1 = word_of b _ g minus_one in
    true≢false (sym (ap (λ n. overflows n b) a_is ∙ ap (overflows (2 ^ 31)) b_is) ∙ normal)

signed_quotient : (a b : ℕ) → a < 2 ^ 32 → b < 2 ^ 32 → b ≢ 0 → overflows a b ≡ false → signed (quotient a b) ≡ int_div (signed a) (signed b)
signed_quotient a b h g some normal =
    ap signed (quotient_is a b some normal)
    ∙ to_z-of_z w32 (int_div (signed a) (signed b)) (quotient_fits (signed a) (signed b) (signed_fits a h) (no_overflow a b h g normal))

signed_remainder : (a b : ℕ) → a < 2 ^ 32 → b ≢ 0 → overflows a b ≡ false → signed (remainder a b) ≡ int_rem (signed a) (signed b)
signed_remainder a b h some normal =
    ap signed (remainder_is a b some normal)
    ∙ to_z-of_z w32 (int_rem (signed a) (signed b)) (remainder_fits (signed a) (signed b) (signed_fits a h))

-- ---- the laws

-- In two's complement, quotient times divisor plus remainder is the dividend,
-- if the divisor is not zero and the quotient does not overflow.
pub signed_division : (a b : ℕ) → a < 2 ^ 32 → b < 2 ^ 32 → b ≢ 0 → overflows a b ≡ false →
    signed (quotient a b) *ℤ signed b +ℤ signed (remainder a b) ≡ signed a
signed_division a b h g some normal =
    ap (λ z. z *ℤ signed b +ℤ signed (remainder a b)) (signed_quotient a b h g some normal)
    ∙ ap (λ z. int_div (signed a) (signed b) *ℤ signed b +ℤ z) (signed_remainder a b h some normal)
    ∙ quot-rem (signed a) (signed b)

-- If the quotient overflows, the operands are -2^31 and -1.
overflow_is : (a b : ℕ) → overflows a b ≡ true → (a ≡ 2 ^ 31) × (b ≡ 2 ^ 32 - 1)
overflow_is a b over =
    let parts = and_parts (eqb a (2 ^ 31)) (eqb b (2 ^ 32 - 1)) over in
    (eqb-true a (2 ^ 31) parts.0, eqb-true b (2 ^ 32 - 1) parts.1)

-- If the quotient overflows, it is 2^31 and the remainder is 0.
pub at_overflow : (a b : ℕ) → overflows a b ≡ true → (quotient a b ≡ 2 ^ 31) × (remainder a b ≡ 0)
unfolding quotient remainder
at_overflow a b over =
    let is = overflow_is a b over in
    let some : eqb b 0 ≡ false = ne_eqb b 0 (λ e. omega arith) in
    rw (some, over) (refl, refl)

-- An equation of words in two's complement holds modulo 2^32 as well.
modulo_word : (q b r a : ℕ) → q < 2 ^ 32 → b < 2 ^ 32 → r < 2 ^ 32 → a < 2 ^ 32 →
    signed q *ℤ signed b +ℤ signed r ≡ signed a → (q * b + r) % 2 ^ 32 ≡ a
modulo_word q b r a q_small b_small r_small a_small e =
    let low = q * b % 2 ^ 32 in
    let sum : signed ((low + r) % 2 ^ 32) ≡ int_wrap w32 (signed low +ℤ signed r) = wrapping_add-bits w32 low r (omega arith) r_small in
    let product : int_wrap w32 (signed low +ℤ signed r) ≡ int_wrap w32 (int_wrap w32 (signed q *ℤ signed b) +ℤ signed r) =
    ap (λ z. int_wrap w32 (z +ℤ signed r)) (wrapping_mul-bits w32 q b q_small b_small) in
    let whole = int_wrap-add_left w32 (signed q *ℤ signed b) (signed r) ∙ ap (int_wrap w32) e ∙ int_wrap_fits w32 (signed a) (signed_fits a a_small) in
    let word : (low + r) % 2 ^ 32 ≡ a = word_of ((low + r) % 2 ^ 32) (signed a) (omega arith) (sum ∙ product ∙ whole) ∙ of_z-to_z w32 a a_small in
    omega arith

-- As words, modulo 2^32, quotient times divisor plus remainder is the dividend if the divisor is not zero.
pub word_division : (a b : ℕ) → a < 2 ^ 32 → b < 2 ^ 32 → b ≢ 0 → (quotient a b * b + remainder a b) % 2 ^ 32 ≡ a
word_division a b h g some = by (overflows a b) refl
  where
    by : (over : Bool) → overflows a b ≡ over → (quotient a b * b + remainder a b) % 2 ^ 32 ≡ a
    by false normal = modulo_word (quotient a b) b (remainder a b) a (quotient_small a b h) g (remainder_small a b h) h (signed_division a b h g some normal)
    by true over =
        let is = overflow_is a b over in
        let results = at_overflow a b over in
        let product : quotient a b * b ≡ 2 ^ 31 * (2 ^ 32 - 1) = ap (λ q. q * b) results.0 ∙ ap (λ d. 2 ^ 31 * d) is.1 in
        omega (arith, product, results.1, is.0)

divisor_size : (b : ℕ) → b < 2 ^ 32 → b ≢ 0 → 0 < unsigned_abs (signed b)
divisor_size b h some = grind arith

-- A remainder in two's complement is nearer to zero than the divisor, if that is not zero.
pub remainder_is_nearer : (a b : ℕ) → a < 2 ^ 32 → b < 2 ^ 32 → b ≢ 0 → unsigned_abs (signed (remainder a b)) < unsigned_abs (signed b)
remainder_is_nearer a b h g some = by (overflows a b) refl
  where
    by : (over : Bool) → overflows a b ≡ over → unsigned_abs (signed (remainder a b)) < unsigned_abs (signed b)
    by false normal = rw (signed_remainder a b h some normal) (rem_below (signed a) (signed b) (divisor_size b g some))
    by true over = rw ((at_overflow a b over).1) (divisor_size b g some)

-- A remainder that is not 0 has the dividend's sign.
sign_of_remainder : (x y : ℤ) → int_rem x y ≢ pos 0 → is_negative (int_rem x y) ≡ is_negative x
sign_of_remainder (pos a) y some = le-ltb (a % unsigned_abs y) 0 (omega arith) ∙ sym (le-ltb a 0 (omega arith))
sign_of_remainder (negsuc a) y some = negated (suc a % unsigned_abs y) some
  where
    negated : (n : ℕ) → neg_ℤ (pos n) ≢ pos 0 → is_negative (neg_ℤ (pos n)) ≡ true
    negated zero apart = absurd (apart refl)
    negated (suc n) apart = refl

remainder_by_zero : (a : ℕ) → remainder a 0 ≡ a
unfolding remainder
remainder_by_zero a = refl

-- A remainder in two's complement that is not zero has the sign of the dividend.
pub remainder_has_the_sign : (a b : ℕ) → a < 2 ^ 32 → remainder a b ≢ 0 → is_negative (signed (remainder a b)) ≡ is_negative (signed a)
remainder_has_the_sign a zero h some = ap (λ n. is_negative (signed n)) (remainder_by_zero a)
remainder_has_the_sign a (suc b) h some = by (overflows a (suc b)) refl
  where
    by : (over : Bool) → overflows a (suc b) ≡ over → is_negative (signed (remainder a (suc b))) ≡ is_negative (signed a)
    by true over = absurd (some (at_overflow a (suc b) over).1)
    by false normal =
        let is = signed_remainder a (suc b) h (λ e. omega arith) normal in
        let not_zero : int_rem (signed a) (signed (suc b)) ≢ pos 0 =
        λ e. some (word_of (remainder a (suc b)) (pos 0) (remainder_small a (suc b) h) (is ∙ e)) in
        ap is_negative is ∙ sign_of_remainder (signed a) (signed (suc b)) not_zero
