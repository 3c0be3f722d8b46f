-- The tests for identities and for constant functions.
use Rattle.std.proofs.Common.{◌≡◌, ℕ, ◌+◌, ◌-◌, ◌%◌, ◌^◌, ◌<◌, ◌↔◌, IsTrue, Bool, true, false, ◌&&◌, refl, sym, ap, ◌∙◌, arith, pos, negsuc, FitsSigned, ℤ}
use Rattle.std.specs.Int.{w32, cast_signed, cast_unsigned}
use Rattle.std.specs.Int.Bits.{bit_and, bit_xor, xor_assoc, xor_self}
use Rattle.std.proofs.lemmas.Bool.Decides.{nat_tests, Decides-int_eq, Decides-eqb}
use Rattle.std.proofs.lemmas.Int.{ints, of_z-to_z, to_z-of_z}
use Rattle.std.proofs.lemmas.Nat.{and_comm}
use Rattle.std.specs.Ordering.{int_eq}
use Rattle.std.proofs.Math.Facts.{Fits-of_lt, sfits_to_z}
use Rattle.phi_algebra.specs.Functions.{apply, IsInRange, IsIdentity, IsConstant, HasValue, is_identity, is_constant}
use Rattle.phi_algebra.specs.Ranges.{SignedEnds, UnsignedEnds, IsSignedRange, IsUnsignedRange, clamped_signed, clamped_unsigned}
use Rattle.phi_algebra.specs.declared.phi.Phi.{Phi}
use Rattle.phi_algebra.specs.declared.phi.Phi.TheVariants.{Add, Bits, Clamp, ClampU}
use Rattle.phi_algebra.proofs.Masks.{kept, ones_keep, xor_zero}

both : (a b : Bool) → (a && b) ≡ true → (a ≡ true) × (b ≡ true)
both true true h = (refl, refl)
both true false h = (refl, h)
both false b h = (h, absurd (cc))

-- Clamping takes the lowest and the highest word to the ends of the range.
pub clamped_lowest : (r : SignedEnds) → IsSignedRange r → clamped_signed r (negsuc (2 ^ 31 - 1)) ≡ r.lo
clamped_lowest r w = grind (arith, ints, w.lo_fits, w.hi_fits, w.ordered)

pub clamped_highest : (r : SignedEnds) → IsSignedRange r → clamped_signed r (pos (2 ^ 31 - 1)) ≡ r.hi
clamped_highest r w = grind (arith, ints, w.lo_fits, w.hi_fits, w.ordered)

pub clamped_least : (r : UnsignedEnds) → IsUnsignedRange r → clamped_unsigned r 0 ≡ r.lo
clamped_least r w = grind arith

pub clamped_greatest : (r : UnsignedEnds) → IsUnsignedRange r → clamped_unsigned r (2 ^ 32 - 1) ≡ r.hi
clamped_greatest r w = grind arith

-- Clamping to the full range keeps each word.
full_keeps : (r : SignedEnds) (z : ℤ) → r.lo ≡ negsuc (2 ^ 31 - 1) → r.hi ≡ pos (2 ^ 31 - 1) → FitsSigned w32 z → clamped_signed r z ≡ z
full_keeps r z low high fits = rw (low, high) (grind (arith, ints, fits))

-- The clamp function takes the lowest and the highest word to the ends of its range.
at_lowest : (r : SignedEnds) → IsSignedRange r → apply (Clamp r) (2 ^ 31) ≡ cast_unsigned w32 r.lo
unfolding apply
at_lowest r w = ap (cast_unsigned w32) (clamped_lowest r w)

at_highest : (r : SignedEnds) → IsSignedRange r → apply (Clamp r) (2 ^ 31 - 1) ≡ cast_unsigned w32 r.hi
unfolding apply
at_highest r w = ap (cast_unsigned w32) (clamped_highest r w)

-- If the test for an identity holds of a function, the function gives each word back.
pub identity_there : (f : Phi) → is_identity f ≡ true → IsIdentity f
unfolding apply
identity_there (Add e) h x small = grind (arith, nat_tests)
identity_there (Bits and xor) h x small =
    let a : and ≡ 2 ^ 32 - 1 = (Decides-eqb and (2 ^ 32 - 1)).0 (both _ _ h).0 in
    let b : xor ≡ 0 = (Decides-eqb xor 0).0 (both _ _ h).1 in
    rw (a, b) (ones_keep x small)
identity_there (Clamp r) h x small =
    let ends : (int_eq r.lo (negsuc (2 ^ 31 - 1)) ≡ true) × (int_eq r.hi (pos (2 ^ 31 - 1)) ≡ true) = both _ _ h in
    let same : clamped_signed r (cast_signed w32 x) ≡ cast_signed w32 x =
    full_keeps r (cast_signed w32 x) ((Decides-int_eq r.lo (negsuc (2 ^ 31 - 1))).0 ends.0) ((Decides-int_eq r.hi (pos (2 ^ 31 - 1))).0 ends.1)
    (sfits_to_z (Fits-of_lt small)) in
    ap (cast_unsigned w32) same ∙ of_z-to_z w32 x small
identity_there (ClampU r) h x small = grind (arith, nat_tests)

-- If a function in range gives each word back, the test for an identity holds of it.
pub identity_back : (f : Phi) → IsInRange f → IsIdentity f → is_identity f ≡ true
unfolding apply
identity_back (Add e) w h =
    let zero_is : (0 + e) % 2 ^ 32 ≡ 0 = h 0 (omega arith) in
    (Decides-eqb e 0).1 (omega arith)
identity_back (Bits and xor) w h =
    let b : xor ≡ 0 = h 0 (omega arith) in
    let a : and ≡ 2 ^ 32 - 1 = sym (and_comm (2 ^ 32 - 1) and ∙ kept and w.0) ∙ sym (xor_zero (bit_and (2 ^ 32 - 1) and))
    ∙ ap (bit_xor (bit_and (2 ^ 32 - 1) and)) (sym b) ∙ h (2 ^ 32 - 1) (omega arith) in
    rw (a, b) refl
identity_back (Clamp r) w h =
    let lo_word : cast_unsigned w32 r.lo ≡ 2 ^ 31 = sym (at_lowest r w) ∙ h (2 ^ 31) (omega arith) in
    let hi_word : cast_unsigned w32 r.hi ≡ 2 ^ 31 - 1 = sym (at_highest r w) ∙ h (2 ^ 31 - 1) (omega arith) in
    let a : r.lo ≡ negsuc (2 ^ 31 - 1) = sym (to_z-of_z w32 r.lo w.lo_fits) ∙ ap (cast_signed w32) lo_word in
    let b : r.hi ≡ pos (2 ^ 31 - 1) = sym (to_z-of_z w32 r.hi w.hi_fits) ∙ ap (cast_signed w32) hi_word in
    rw (a, b) refl
identity_back (ClampU r) w h =
    let a : r.lo ≡ 0 = sym (clamped_least r w) ∙ h 0 (omega arith) in
    let b : r.hi ≡ 2 ^ 32 - 1 = sym (clamped_greatest r w) ∙ h (2 ^ 32 - 1) (omega arith) in
    rw (a, b) refl

-- A Boolean that is the test for an identity is true exactly for identities.
pub identity_by : (f : Phi) (b : Bool) → IsInRange f → b ≡ is_identity f → (IsTrue b ↔ IsIdentity f)
identity_by f b w e = (λ t. identity_there f (sym e ∙ t), λ h. e ∙ identity_back f w h)

-- A function that passes the test for a constant function has its value at 0 everywhere.
pub constant_there : (f : Phi) → is_constant f ≡ true → HasValue f (apply f 0)
unfolding apply
constant_there (Add e) h x small = absurd (cc)
constant_there (Bits and xor) h x small =
    let a : and ≡ 0 = (Decides-eqb and 0).0 h in
    rw a (ap (λ y. bit_xor y xor) (and_comm x 0))
constant_there (Clamp r) h x small =
    let a : r.lo ≡ r.hi = (Decides-int_eq r.lo r.hi).0 h in
    let same : clamped_signed r (cast_signed w32 x) ≡ clamped_signed r (cast_signed w32 0) = rw a (grind (arith, ints)) in
    ap (cast_unsigned w32) same
constant_there (ClampU r) h x small = grind (arith, nat_tests)

-- No sum is a constant function.
pub sum_varies : (e : ℕ) → IsConstant (Add e) → ⊥
unfolding apply
sum_varies e (y, h) =
    let first : (0 + e) % 2 ^ 32 ≡ y = h 0 (omega arith) in
    let second : (1 + e) % 2 ^ 32 ≡ y = h 1 (omega arith) in
    omega arith

-- If a Bits function is constant, its mask is 0.
pub bits_clear : (and xor : ℕ) → and < 2 ^ 32 → IsConstant (Bits and xor) → and ≡ 0
unfolding apply
bits_clear and xor w (y, h) =
    let first : xor ≡ y = h 0 (omega arith) in
    let second : bit_xor and xor ≡ y = ap (λ z. bit_xor z xor) (sym (and_comm (2 ^ 32 - 1) and ∙ kept and w)) ∙ h (2 ^ 32 - 1) (omega arith) in
    let twice : bit_xor (bit_xor and xor) xor ≡ and = xor_assoc and xor xor ∙ ap (bit_xor and) (xor_self xor) ∙ xor_zero and in
    sym twice ∙ ap (λ z. bit_xor z xor) (second ∙ sym first) ∙ xor_self xor

pub ends_meet : (r : SignedEnds) → IsSignedRange r → IsConstant (Clamp r) → r.lo ≡ r.hi
ends_meet r w (y, h) =
    let words : cast_unsigned w32 r.lo ≡ cast_unsigned w32 r.hi =
    sym (at_lowest r w) ∙ h (2 ^ 31) (omega arith) ∙ sym (h (2 ^ 31 - 1) (omega arith)) ∙ at_highest r w in
    sym (to_z-of_z w32 r.lo w.lo_fits) ∙ ap (cast_signed w32) words ∙ to_z-of_z w32 r.hi w.hi_fits

pub ends_meet_unsigned : (r : UnsignedEnds) → IsUnsignedRange r → IsConstant (ClampU r) → r.lo ≡ r.hi
unfolding apply
ends_meet_unsigned r w (y, h) =
    sym (clamped_least r w) ∙ h 0 (omega arith) ∙ sym (h (2 ^ 32 - 1) (omega arith)) ∙ clamped_greatest r w

-- If a function in range is constant, the test for a constant function holds of it.
pub constant_back : (f : Phi) → IsInRange f → IsConstant f → is_constant f ≡ true
constant_back (Add e) w h = absurd (sum_varies e h)
constant_back (Bits and xor) w h = (Decides-eqb and 0).1 (bits_clear and xor w.0 h)
constant_back (Clamp r) w h = (Decides-int_eq r.lo r.hi).1 (ends_meet r w h)
constant_back (ClampU r) w h = (Decides-eqb r.lo r.hi).1 (ends_meet_unsigned r w h)

-- A Boolean that is the test for a constant function is true exactly for constant functions.
pub constant_by : (f : Phi) (b : Bool) → (IsConstant f → is_constant f ≡ true) → b ≡ is_constant f → (IsTrue b ↔ IsConstant f)
constant_by f b back e = (λ t. (apply f 0, constant_there f (sym e ∙ t)), λ h. e ∙ back h)
