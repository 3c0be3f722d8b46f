-- What a composition means, and the functions that do not compose.
use Rattle.std.proofs.Common.{◌≡◌, ℕ, ◌+◌, ◌%◌, ◌^◌, ◌<◌, ◌≤◌, ◌≢◌, ◌↔◌, Bool, true, false, ◌||◌, refl, sym, ap, ◌∙◌}
use Rattle.std.proofs.Common.{arith, min, max, ℤ, ◌≤ℤ◌, Option, Some, None, IsNone, IfSome, FitsSigned, if◌then◌else◌}
use Rattle.std.specs.Int.{w32, cast_signed, cast_unsigned, bit_at}
use Rattle.std.specs.Int.Bits.{bit_and, bit_xor, xor_assoc}
use Rattle.std.proofs.lemmas.Int.{ints, to_z-of_z}
use Rattle.std.proofs.Math.Facts.{Fits-of_lt, Fits-of_z, sfits_to_z}
use Rattle.std.proofs.lemmas.Nat.{and_assoc, and_le_l, xor_lt}
use Rattle.std.proofs.lemmas.Nat.Bits.{same_from_bits, bit_at_and, bit_at_xor, bit_at-lt}
use Rattle.phi_algebra.specs.Functions.{apply, IsInRange, IsIdentity, IsConstant, is_identity, is_constant}
use Rattle.phi_algebra.specs.Ranges.{SignedEnds, UnsignedEnds, IsSignedRange, IsUnsignedRange, clamped_signed, clamped_unsigned}
use Rattle.phi_algebra.specs.Composition.{AreApart, IsComposition, kind_of, composed, composed_across, brought_signed, brought_unsigned}
use Rattle.phi_algebra.specs.declared.phi.Phi.{Phi}
use Rattle.phi_algebra.specs.declared.phi.Phi.TheVariants.{Add, Bits, Clamp, ClampU}
use Rattle.phi_algebra.proofs.Masks.{constant_meaning}
use Rattle.phi_algebra.proofs.Special.{identity_there, identity_by, constant_there, constant_back, constant_by}

-- ---- one kind

-- A mask distributes over an exclusive or.
and_xor : (a b m : ℕ) → bit_and (bit_xor a b) m ≡ bit_xor (bit_and a m) (bit_and b m)
and_xor a b m =
    same_from_bits _ _ (λ i.
    let left : bit_at (bit_and (bit_xor a b) m) i ≡ min (bit_at (bit_xor a b) i) (bit_at m i) = bit_at_and (bit_xor a b) m i in
    let inner : bit_at (bit_xor a b) i ≡ (bit_at a i + bit_at b i) % 2 = bit_at_xor a b i in
    let right : bit_at (bit_xor (bit_and a m) (bit_and b m)) i ≡ (bit_at (bit_and a m) i + bit_at (bit_and b m) i) % 2 =
    bit_at_xor (bit_and a m) (bit_and b m) i in
    let first : bit_at (bit_and a m) i ≡ min (bit_at a i) (bit_at m i) = bit_at_and a m i in
    let second : bit_at (bit_and b m) i ≡ min (bit_at b i) (bit_at m i) = bit_at_and b m i in
    let a_bit : bit_at a i < 2 = bit_at-lt a i in
    let b_bit : bit_at b i < 2 = bit_at-lt b i in
    let m_bit : bit_at m i < 2 = bit_at-lt m i in
    omega arith)

masks_compose : (x a t a' t' : ℕ) → bit_xor (bit_and x (bit_and a a')) (bit_xor (bit_and t a') t') ≡ bit_xor (bit_and (bit_xor (bit_and x a) t) a') t'
masks_compose x a t a' t' =
    sym (
    ap (λ y. bit_xor y t') (and_xor (bit_and x a) t a')
    ∙ ap (λ y. bit_xor (bit_xor y (bit_and t a')) t') (and_assoc a' x a)
    ∙ xor_assoc (bit_and x (bit_and a a')) (bit_and t a') t')

clamps_compose : (r s : SignedEnds) (z : ℤ) → IsSignedRange r → IsSignedRange s → clamped_signed (brought_signed r s) z ≡ clamped_signed s (clamped_signed r z)
clamps_compose r s z p q = grind (arith, ints, p.ordered, q.ordered)

as_max : (r : UnsignedEnds) (x : ℕ) → r.lo ≤ r.hi → clamped_unsigned r x ≡ max r.lo (min x r.hi)
as_max r x h = grind arith

clamps_compose_unsigned : (r s : UnsignedEnds) (x : ℕ) → r.lo ≤ r.hi → s.lo ≤ s.hi →
    clamped_unsigned (brought_unsigned r s) x ≡ clamped_unsigned s (clamped_unsigned r x)
clamps_compose_unsigned r s x p q =
    let low : clamped_unsigned s r.lo ≡ max s.lo (min r.lo s.hi) = as_max s r.lo q in
    let high : clamped_unsigned s r.hi ≡ max s.lo (min r.hi s.hi) = as_max s r.hi q in
    let left : clamped_unsigned (brought_unsigned r s) x ≡ max (clamped_unsigned s r.lo) (min x (clamped_unsigned s r.hi)) =
    as_max (brought_unsigned r s) x (omega arith) in
    let inner : clamped_unsigned r x ≡ max r.lo (min x r.hi) = as_max r x p in
    let right : clamped_unsigned s (clamped_unsigned r x) ≡ max s.lo (min (clamped_unsigned r x) s.hi) = as_max s (clamped_unsigned r x) q in
    omega arith

-- Clamping to a signed range keeps the order of numbers.
pub clamped_order : (s : SignedEnds) (a b : ℤ) → IsSignedRange s → a ≤ℤ b → clamped_signed s a ≤ℤ clamped_signed s b
clamped_order s a b q h = grind (arith, ints, q.ordered)

-- Clamping to an unsigned range keeps the order of numbers.
pub clamped_order_unsigned : (s : UnsignedEnds) (a b : ℕ) → IsUnsignedRange s → a ≤ b → clamped_unsigned s a ≤ clamped_unsigned s b
clamped_order_unsigned s a b q h = grind arith

-- A number that fits in a signed word still fits after it is clamped to a signed range.
pub clamped_fits : (r : SignedEnds) (z : ℤ) → IsSignedRange r → FitsSigned w32 z → FitsSigned w32 (clamped_signed r z)
clamped_fits r z p h = grind (arith, p.lo_fits, p.hi_fits)

word_fits : (x : ℕ) → x < 2 ^ 32 → FitsSigned w32 (cast_signed w32 x)
word_fits x h = sfits_to_z (Fits-of_lt h)

-- ---- two kinds

-- The value of a function in range at a word is a word.
pub value_small : (f : Phi) (x : ℕ) → IsInRange f → x < 2 ^ 32 → apply f x < 2 ^ 32
unfolding apply
value_small (Add e) x w h = omega arith
value_small (Bits and xor) x w h = xor_lt 32 _ _ (omega (arith, and_le_l x and)) w.1
value_small (Clamp r) x w h = (Fits-of_z (clamped_fits r (cast_signed w32 x) w (word_fits x h))).fits
value_small (ClampU r) x w h = grind arith

across_by : (f g : Phi) (i c j k : Bool) → IsInRange f → is_identity f ≡ i → is_constant g ≡ c → is_identity g ≡ j → is_constant f ≡ k →
    IfSome (if i || c then Some g else if j then Some f else if k then Some (Bits 0 (apply g (apply f 0))) else None) (IsComposition f g)
across_by f g true c j k w ei ec ej ek = λ x small. ap (apply g) (sym (identity_there f ei x small))
across_by f g false true j k w ei ec ej ek = λ x small. constant_there g ec x small ∙ sym (constant_there g ec (apply f x) (value_small f x w small))
across_by f g false false true k w ei ec ej ek = λ x small. sym (identity_there g ej (apply f x) (value_small f x w small))
across_by f g false false false true w ei ec ej ek = λ x small. constant_meaning (apply g (apply f 0)) x ∙ ap (apply g) (sym (constant_there f ek x small))
across_by f g false false false false w ei ec ej ek = tt

pub across_meaning : (f g : Phi) → IsInRange f → IfSome (composed_across f g) (IsComposition f g)
across_meaning f g w = across_by f g (is_identity f) (is_constant g) (is_identity g) (is_constant f) w refl refl refl refl

-- The composition of two functions in range, if there is one, is the first followed by the second.
pub composed_meaning : (f g : Phi) → IsInRange f → IsInRange g → IfSome (composed f g) (IsComposition f g)
unfolding composed apply
composed_meaning (Add e) (Add e') p q = λ x small. omega arith
composed_meaning (Bits and xor) (Bits and' xor') p q = λ x small. masks_compose x and xor and' xor'
composed_meaning (Clamp r) (Clamp s) p q = λ x small.
    let fits : FitsSigned w32 (clamped_signed r (cast_signed w32 x)) = clamped_fits r (cast_signed w32 x) p (word_fits x small) in
    ap (cast_unsigned w32) (clamps_compose r s (cast_signed w32 x) p q ∙ ap (clamped_signed s) (sym (to_z-of_z w32 _ fits)))
composed_meaning (ClampU r) (ClampU s) p q = λ x small. clamps_compose_unsigned r s x p.ordered q.ordered
composed_meaning f g p q = across_meaning f g p

-- ---- pairs without a composition

none_by : (f g : Phi) (i c j k : Bool) → kind_of f ≢ kind_of g → (i ≡ true ↔ IsIdentity f) → (c ≡ true ↔ IsConstant g) → (j ≡ true ↔ IsIdentity g) →
    (k ≡ true ↔ IsConstant f) →
    (IsNone (if i || c then Some g else if j then Some f else if k then Some (Bits 0 (apply g (apply f 0))) else None) ↔ AreApart f g)
none_by f g true c j k kinds ei ec ej ek = (λ n. absurd (cc), λ a. absurd (a.first_changes (ei.0 refl)))
none_by f g false true j k kinds ei ec ej ek = (λ n. absurd (cc), λ a. absurd (a.second_varies (ec.0 refl)))
none_by f g false false true k kinds ei ec ej ek = (λ n. absurd (cc), λ a. absurd (a.second_changes (ej.0 refl)))
none_by f g false false false true kinds ei ec ej ek = (λ n. absurd (cc), λ a. absurd (a.first_varies (ek.0 refl)))
none_by f g false false false false kinds ei ec ej ek = (
  λ n. record {
    kinds = kinds;
    first_varies = λ h. let e = ek.1 h in cc;
    first_changes = λ h. let e = ei.1 h in cc;
    second_varies = λ h. let e = ec.1 h in cc;
    second_changes = λ h. let e = ej.1 h in cc;
  },
  λ a. refl,
)

across_none : (f g : Phi) → kind_of f ≢ kind_of g → IsInRange f → IsInRange g → (IsNone (composed_across f g) ↔ AreApart f g)
across_none f g kinds p q =
    none_by f g (is_identity f) (is_constant g) (is_identity g) (is_constant f) kinds
    (identity_by f _ p refl) (constant_by g _ (constant_back g q) refl) (identity_by g _ q refl) (constant_by f _ (constant_back f p) refl)

pub composed_none : (f g : Phi) → IsInRange f → IsInRange g → (IsNone (composed f g) ↔ AreApart f g)
unfolding composed
composed_none (Add e) (Add e') p q = (λ n. absurd (cc), λ a. absurd (a.kinds refl))
composed_none (Bits and xor) (Bits and' xor') p q = (λ n. absurd (cc), λ a. absurd (a.kinds refl))
composed_none (Clamp r) (Clamp s) p q = (λ n. absurd (cc), λ a. absurd (a.kinds refl))
composed_none (ClampU r) (ClampU s) p q = (λ n. absurd (cc), λ a. absurd (a.kinds refl))
composed_none f g p q = across_none f g (λ e. cc) p q

-- ---- for the code

-- A sum is composed by the rule for two kinds with a function that is not a sum.
pub across_add : (e : ℕ) (g : Phi) → ((e' : ℕ) → g ≡ Add e' → ⊥) → composed (Add e) g ≡ composed_across (Add e) g
unfolding composed
across_add e (Add e') other = absurd (other e' refl)
across_add e (Bits and' xor') other = refl
across_add e (Clamp s) other = refl
across_add e (ClampU s) other = refl

-- A mask is composed by the rule for two kinds with a function that is not a mask.
pub across_bits : (and xor : ℕ) (g : Phi) → ((and' xor' : ℕ) → g ≡ Bits and' xor' → ⊥) → composed (Bits and xor) g ≡ composed_across (Bits and xor) g
unfolding composed
across_bits and xor (Add e') other = refl
across_bits and xor (Bits and' xor') other = absurd (other and' xor' refl)
across_bits and xor (Clamp s) other = refl
across_bits and xor (ClampU s) other = refl

-- A signed range is composed by the rule for two kinds with a function that is not a signed range.
pub across_clamp : (r : SignedEnds) (g : Phi) → ((s : SignedEnds) → g ≡ Clamp s → ⊥) → composed (Clamp r) g ≡ composed_across (Clamp r) g
unfolding composed
across_clamp r (Add e') other = refl
across_clamp r (Bits and' xor') other = refl
across_clamp r (Clamp s) other = absurd (other s refl)
across_clamp r (ClampU s) other = refl

-- An unsigned range is composed by the rule for two kinds with a function that is not an unsigned range.
pub across_clampu : (r : UnsignedEnds) (g : Phi) → ((s : UnsignedEnds) → g ≡ ClampU s → ⊥) → composed (ClampU r) g ≡ composed_across (ClampU r) g
unfolding composed
across_clampu r (Add e') other = refl
across_clampu r (Bits and' xor') other = refl
across_clampu r (Clamp s) other = refl
across_clampu r (ClampU s) other = absurd (other s refl)

-- An option that is the composition of two functions in range, if it is some, is the first followed by the second.
pub meaning_by : (f g : Phi) (o : Option Phi) → o ≡ composed f g → IsInRange f → IsInRange g → IfSome o (IsComposition f g)
meaning_by f g o e p q = rw e (composed_meaning f g p q)

-- An option that is the composition of two functions in range is `None` exactly if the two are apart.
pub none_exactly : (f g : Phi) (o : Option Phi) → o ≡ composed f g → IsInRange f → IsInRange g → (IsNone o ↔ AreApart f g)
none_exactly f g o e p q = rw e (composed_none f g p q)
