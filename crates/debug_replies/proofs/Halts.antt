-- If one processor is not halted, not all are.
use Rattle.std.proofs.Common.{◌≡◌, ℕ, zero, suc, ◌<◌, ◌&&◌, ◌⊎◌, inl, inr, Bool, true, false, refl, sym, arith}
use Rattle.std.proofs.lemmas.Bool.{cases_eq}
use Rattle.flat_machine.specs.State.{FlatState}
use Rattle.debug_replies.specs.Stops.{are_halted, is_halted_at}

and_false : (b : Bool) → (b && false) ≡ false
and_false true = refl
and_false false = refl

-- If one of the first n processors is not halted, not all of them are.
pub one_goes_on : (m : FlatState) (i n : ℕ) → i < n → is_halted_at m i ≡ false → are_halted m n ≡ false
one_goes_on m i zero below none = absurd (omega arith)
one_goes_on m i (suc n) below none = by (cases_eq i n) (λ before. one_goes_on m i n before none)
  where
    by : (i ≡ n) ⊎ (i ≡ n → ⊥) → (i < n → are_halted m n ≡ false) → (are_halted m n && is_halted_at m n) ≡ false
    by (inl same) rest = rw (sym same, none) (and_false (are_halted m i))
    by (inr other) rest = rw (rest (omega arith)) refl
