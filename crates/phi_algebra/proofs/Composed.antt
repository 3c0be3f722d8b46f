-- Laws of composition.
use Rattle.std.proofs.Common.{◌≡◌, Bool, true, false, ◌||◌, refl, sym, ap, ◌∙◌, arith, Some, None, IfSome, if◌then◌else◌}
use Rattle.std.proofs.lemmas.Nat.{and_le_l, xor_lt}
use Rattle.phi_algebra.specs.Functions.{apply, IsInRange, is_identity, is_constant}
use Rattle.phi_algebra.specs.Composition.{IsComposition, composed}
use Rattle.phi_algebra.specs.Laws.{CompositionIsAssociative, IdentityIsNeutral, OneKindComposes}
use Rattle.phi_algebra.specs.declared.phi.Phi.{Phi}
use Rattle.phi_algebra.specs.declared.phi.Phi.TheVariants.{Add, Bits, Clamp, ClampU}
use Rattle.phi_algebra.proofs.Composing.{clamped_fits, clamped_order, clamped_order_unsigned, composed_meaning, value_small}
use Rattle.phi_algebra.proofs.Special.{identity_back}

-- ---- the composition is in range

across_range_by : (f g : Phi) (i c j k : Bool) → IsInRange f → IsInRange g →
    IfSome (if i || c then Some g else if j then Some f else if k then Some (Bits 0 (apply g (apply f 0))) else None) IsInRange
across_range_by f g true c j k p q = q
across_range_by f g false true j k p q = q
across_range_by f g false false true k p q = p
across_range_by f g false false false true p q = (omega arith, value_small g _ q (value_small f 0 p (omega arith)))
across_range_by f g false false false false p q = tt

pub composed_range : (f g : Phi) → IsInRange f → IsInRange g → IfSome (composed f g) IsInRange
unfolding composed
composed_range (Add e) (Add e') p q = omega arith
composed_range (Bits and xor) (Bits and' xor') p q =
    (omega (arith, and_le_l and and'), xor_lt 32 _ _ (omega (arith, and_le_l xor and')) q.1)
composed_range (Clamp r) (Clamp s) p q =
    record { lo_fits = clamped_fits s r.lo q p.lo_fits; hi_fits = clamped_fits s r.hi q p.hi_fits; ordered = clamped_order s r.lo r.hi q p.ordered }
composed_range (ClampU r) (ClampU s) p q =
    record { ordered = clamped_order_unsigned s r.lo r.hi q p.ordered; hi_fits = grind arith }
composed_range f g p q = across_range_by f g (is_identity f) (is_constant g) (is_identity g) (is_constant f) p q

-- ---- a composition that is there

-- If two functions in range compose to a third, the third is the first followed by the second.
pub meaning_of : (f g h : Phi) → composed f g ≡ Some h → IsInRange f → IsInRange g → IsComposition f g h
meaning_of f g h e p q = rw e at (composed_meaning f g p q)

-- If two functions in range compose to a third, the third is in range.
pub range_of : (f g h : Phi) → composed f g ≡ Some h → IsInRange f → IsInRange g → IsInRange h
range_of f g h e p q = rw e at (composed_range f g p q)

-- If three functions compose in both ways, both results mean the same.
pub associative : CompositionIsAssociative
associative f g h fg gh left right p q r first then_h later f_then x small =
    meaning_of fg h left then_h (range_of f g fg first p q) r x small
    ∙ ap (apply h) (meaning_of f g fg first p q x small)
    ∙ sym (meaning_of g h gh later q r (apply f x) (value_small f x p small))
    ∙ sym (meaning_of f gh right f_then p (range_of g h gh later q r) x small)

-- ---- an identity

-- An identity composes with every function after it.
identity_first : (i f : Phi) → is_identity i ≡ true → (h : Phi) × (composed i f ≡ Some h)
unfolding composed
identity_first (Add e) (Add e') t = (_, refl)
identity_first (Bits and xor) (Bits and' xor') t = (_, refl)
identity_first (Clamp r) (Clamp s) t = (_, refl)
identity_first (ClampU r) (ClampU s) t = (_, refl)
identity_first i f t = (f, rw t refl)

-- By the rule for two kinds, every function composes with an identity after it.
across_second : (f i : Phi) (a c k : Bool) → is_identity i ≡ true →
    (h : Phi) × ((if a || c then Some i else if is_identity i then Some f else if k then Some (Bits 0 (apply i (apply f 0))) else None) ≡ Some h)
across_second f i true c k t = (i, refl)
across_second f i false true k t = (i, refl)
across_second f i false false k t = (f, rw t refl)

identity_second : (f i : Phi) → is_identity i ≡ true → (h : Phi) × (composed f i ≡ Some h)
unfolding composed
identity_second (Add e) (Add e') t = (_, refl)
identity_second (Bits and xor) (Bits and' xor') t = (_, refl)
identity_second (Clamp r) (Clamp s) t = (_, refl)
identity_second (ClampU r) (ClampU s) t = (_, refl)
identity_second f i t = across_second f i (is_identity f) (is_constant i) (is_constant f) t

-- An identity composes with each function, before it and after it, and changes nothing.
pub neutral : IdentityIsNeutral
neutral i f p q same =
    let t : is_identity i ≡ true = identity_back i p same in
    let (before, before_is) = identity_first i f t in
    let (after, after_is) = identity_second f i t in (
      rw before_is (λ x small. sym (meaning_of i f before before_is p q x small ∙ ap (apply f) (same x small))),
      rw after_is (λ x small. sym (meaning_of f i after after_is q p x small ∙ same (apply f x) (value_small f x q small))),
    )

-- ---- one kind

-- Two functions of one kind compose to one of that kind.
pub one_kind : OneKindComposes
unfolding composed
one_kind (Add e) (Add e') t = refl
one_kind (Bits and xor) (Bits and' xor') t = refl
one_kind (Clamp r) (Clamp s) t = refl
one_kind (ClampU r) (ClampU s) t = refl
one_kind f g t = absurd (cc)
