-- A range with an address that cannot be reached cannot be reached.
use Rattle.std.proofs.Common.{◌≡◌, ℕ, zero, suc, ◌+◌, ◌<◌, ◌&&◌, ◌⊎◌, inl, inr, Bool, true, false, refl, sym, arith}
use Rattle.std.proofs.lemmas.Bool.{cases_eq}
use Rattle.flat_machine.specs.State.{FlatState}
use Rattle.debug_replies.specs.Errors.{are_reached, is_reached}

and_false : (b : Bool) → (b && false) ≡ false
and_false true = refl
and_false false = refl

-- If one address of a range is not reached, not all of them are.
pub one_is_not : (m : FlatState) (writes : Bool) (address i n : ℕ) → i < n → is_reached m writes (address + i) ≡ false → are_reached m writes address n ≡ false
one_is_not m writes address i zero below none = absurd (omega arith)
one_is_not m writes address i (suc n) below none = by (cases_eq i n) (λ before. one_is_not m writes address i n before none)
  where
    by : (i ≡ n) ⊎ (i ≡ n → ⊥) → (i < n → are_reached m writes address n ≡ false)
        → (are_reached m writes address n && is_reached m writes (address + n)) ≡ false
    by (inl same) rest = rw (sym same, none) (and_false (are_reached m writes address i))
    by (inr other) rest = rw (rest (omega arith)) refl
