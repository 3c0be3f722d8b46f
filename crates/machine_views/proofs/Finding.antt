-- The first element of a list that passes a test, as a loop over the list finds it.
use Rattle.std.proofs.Common.{◌≡◌, ℕ, zero, suc, ◌+◌, ◌<◌, ◌⊎◌, inl, inr, Bool, true, false, List, [], ◌∷◌, length, Option, Some, None}
use Rattle.std.proofs.Common.{refl, sym, ap, ◌∙◌, subst, arith}
use Rattle.std.specs.Prelude.{find, slice_get}
use Rattle.std.proofs.lemmas.Bool.{cases_eq}

-- None of the first n elements passes the test.
abbrev pub NonePasses : {X : Type 0} → (X → Bool) → List X → (n : ℕ) → Type 0
NonePasses {X} test xs n = (i : ℕ) (x : X) → i < n → slice_get xs i ≡ Some x → test x ≡ false

some_inj : {X : Type 0} (x y : X) → Some x ≡ Some y → x ≡ y
some_inj x y is = cc

-- If none of the first n passes, and the next does, it is the first that does.
pub found_at : {X : Type 0} (test : X → Bool) (xs : List X) (n : ℕ) (x : X) → NonePasses test xs n → slice_get xs n ≡ Some x → test x ≡ true →
    find test xs ≡ Some x
found_at test [] n x none there passes = absurd cc
found_at test (y ∷ xs) zero x none there passes =
    let same : y ≡ x = some_inj y x there in
    rw (ap test same ∙ passes) there
found_at test (y ∷ xs) (suc n) x none there passes =
    rw (none 0 y (omega arith) refl) (found_at test xs n x (λ i z below at. none (suc i) z (omega (arith, below)) at) there passes)

-- If none passes, none is found.
pub found_nowhere : {X : Type 0} (test : X → Bool) (xs : List X) → NonePasses test xs (length xs) → find test xs ≡ None
found_nowhere test [] none = refl
found_nowhere test (y ∷ xs) none =
    rw (none 0 y (omega arith) refl) (found_nowhere test xs (λ i z below at. none (suc i) z (omega (arith, below)) at))

-- If the next element does not pass either, none of one more does.
pub none_more : {X : Type 0} (test : X → Bool) (xs : List X) (n : ℕ) (x : X) → NonePasses test xs n → slice_get xs n ≡ Some x → test x ≡ false →
    NonePasses test xs (n + 1)
none_more test xs n x none there fails i y below at = by (cases_eq i n)
  where
    by : (i ≡ n) ⊎ (i ≡ n → ⊥) → test y ≡ false
    by (inl same) = let is : y ≡ x = some_inj y x (sym at ∙ ap (slice_get xs) same ∙ there) in ap test is ∙ fails
    by (inr other) = none i y (omega arith) at
