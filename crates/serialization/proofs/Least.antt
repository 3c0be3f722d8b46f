-- The least and the greatest number that pass a test.
use Rattle.std.proofs.Common.{◌≡◌, ℕ, zero, suc, ◌<◌, Bool, true, false, inl, inr, Option, Some, None, refl, ap, ◌∙◌, arith}
use Rattle.std.specs.Prelude.{if◌then◌else◌}
use Rattle.std.proofs.lemmas.Bool.{cases_eq}
use Rattle.serialization.specs.Draining.{least, greatest}

pub record Least (f : ℕ → Bool) (n i : ℕ) : Type 0 where
  -- It is below n.
  pub within : i < n
  -- It passes.
  pub passes : f i ≡ true
  -- No smaller number passes.
  pub before : (j : ℕ) → j < i → f j ≡ false

pub record Greatest (f : ℕ → Bool) (n i : ℕ) : Type 0 where
  -- It is below n.
  pub within : i < n
  -- It passes.
  pub passes : f i ≡ true
  -- No greater number below n passes.
  pub behind : (j : ℕ) → i < j → j < n → f j ≡ false

-- What the search says: the number found is the least, and none found means none there.
abbrev pub LeastIs : (ℕ → Bool) → ℕ → Option ℕ → Type 0
LeastIs f n None = (j : ℕ) → j < n → f j ≡ false
LeastIs f n (Some i) = Least f n i

abbrev pub GreatestIs : (ℕ → Bool) → ℕ → Option ℕ → Type 0
GreatestIs f n None = (j : ℕ) → j < n → f j ≡ false
GreatestIs f n (Some i) = Greatest f n i

at_last : (f : ℕ → Bool) (n j : ℕ) → j < suc n → ((i : ℕ) → i < n → f i ≡ false) → f n ≡ false → f j ≡ false
at_last f n j l h e = elim (cases_eq j n) [ inl s ↦ ap f s ∙ e | inr m ↦ h j (omega arith) ]

-- What is found is the least number below n that passes; if none is found, none below n passes.
pub least_is : (f : ℕ → Bool) (n : ℕ) → LeastIs f n (least f n)
unfolding least
least_is f zero = λ j l. absurd (omega arith)
least_is f (suc n) = go (least f n) (least_is f n) (f n) refl
  where
    go : (o : Option ℕ) → LeastIs f n o → (b : Bool) → f n ≡ b → LeastIs f (suc n) (elim o [ Some i ↦ Some i | None ↦ if b then Some n else None ])
    go (Some i) h b e = record { within = (let w = h.within in omega arith); passes = h.passes; before = h.before }
    go None h true e = record { within = omega arith; passes = e; before = h }
    go None h false e = λ j l. at_last f n j l h e

-- What is found is the greatest number below n that passes; if none is found, none below n passes.
pub greatest_is : (f : ℕ → Bool) (n : ℕ) → GreatestIs f n (greatest f n)
unfolding greatest
greatest_is f zero = λ j l. absurd (omega arith)
greatest_is f (suc n) = go (f n) refl (greatest f n) (greatest_is f n)
  where
    go : (b : Bool) → f n ≡ b → (o : Option ℕ) → GreatestIs f n o → GreatestIs f (suc n) (if b then Some n else o)
    go true e o h = record { within = omega arith; passes = e; behind = λ j l m. absurd (omega arith) }
    go false e None h = λ j l. at_last f n j l h e
    go false e (Some i) h = record {
      within = (let w = h.within in omega arith);
      passes = h.passes;
      behind =
          λ j l m. elim (cases_eq j n) [ inl s ↦ ap f s ∙ e | inr k ↦ h.behind j l (omega arith) ];
    }
