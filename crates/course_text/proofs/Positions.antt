-- Positions of bytes.
use Rattle.std.proofs.Common.{◌≡◌, ℕ, Bool, not, List, length, Some, None, refl, sym, ◌∙◌, arith, inl, inr}
use Rattle.std.specs.List.{position_or_len, position}
use Rattle.std.proofs.lemmas.Bool.{cases_lt, lt-ltb}
use Rattle.std.proofs.lemmas.Option.{none-some}
use Rattle.std.proofs.lemmas.List.Sums.{prefix_len-le-length}

-- If no byte of a list passes, the place of the first that passes counts as the list's length.
pub position_none : (p : ℕ → Bool) (xs : List ℕ) → position p xs ≡ None → position_or_len p xs ≡ length xs
position_none p xs e =
    elim (cases_lt (position_or_len p xs) (length xs)) [
      | inl lt ↦ let t : position p xs ≡ Some (position_or_len p xs) = rw (lt-ltb _ _ lt) refl in absurd (none-some _ (sym e ∙ t))
      | inr le ↦ omega (arith, prefix_len-le-length (λ x. not (p x)) xs)
    ]
