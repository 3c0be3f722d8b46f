-- The smallest number that passes a test, as found by a search from 0 on.
use Rattle.std.proofs.Common.{◌≡◌, ℕ, zero, suc, ◌<◌, ◌⊎◌, inl, inr, Bool, true, false, Some, None, refl, sym, arith}
use Rattle.std.specs.Prelude.{if◌then◌else◌}
use Rattle.std.proofs.lemmas.Bool.{cases_eq}
use Rattle.debug_replies.specs.Stops.{or_else, smallest}

-- If a number below n passes the test, and none below it does, it is the smallest below n that does.
pub smallest_is : (test : ℕ → Bool) (i n : ℕ) → i < n → smallest test i ≡ None → test i ≡ true → smallest test n ≡ Some i
smallest_is test i zero below none passes = absurd (omega arith)
smallest_is test i (suc n) below none passes = by (cases_eq i n) (λ before. smallest_is test i n before none passes)
  where
    by : (i ≡ n) ⊎ (i ≡ n → ⊥) → (i < n → smallest test n ≡ Some i) → or_else (smallest test n) (if test n then Some n else None) ≡ Some i
    by (inl same) rest = rw (sym same, none, passes) refl
    by (inr other) rest = rw (rest (omega arith)) refl

-- If no number below i passes the test, and i does not, none below the next one does.
pub none_more : (test : ℕ → Bool) (i : ℕ) → smallest test i ≡ None → test i ≡ false → smallest test (suc i) ≡ None
none_more test i none fails = rw (none, fails) refl
