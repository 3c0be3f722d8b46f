-- Parts of a text around a byte.
use Rattle.std.proofs.Common.{◌≡◌, ℕ, suc, ◌+◌, ◌<◌, Bool, true, false, cond, not, List, [], ◌∷◌, length, take, drop}
use Rattle.std.proofs.Common.{Some, None, refl, sym, ap, ◌∙◌, arith, inl, inr, length-drop, nat_lt}
use Rattle.std.specs.List.{position, position_or_len, slice_split}
use Rattle.std.proofs.lemmas.Bool.{cases_lt, lt-ltb, ltb-true}
use Rattle.std.proofs.lemmas.List.Splits.{slice_split_first, slice_split-cons_no}
use Rattle.std.proofs.lemmas.List.Sums.{prefix_len-le-length}
use Rattle.std.proofs.lemmas.Option.{cond_some, none-some}

module _ (p : ℕ → Bool) where
  position-none : (xs : List ℕ) → position p xs ≡ None → position_or_len p xs ≡ length xs
  position-none xs e =
      elim (cases_lt (position_or_len p xs) (length xs)) [
        | inl lt ↦ let t : position p xs ≡ Some (position_or_len p xs) = rw (lt-ltb _ _ lt) refl in absurd (none-some _ (sym e ∙ t))
        | inr le ↦ omega (arith, prefix_len-le-length (λ x. not (p x)) xs)
      ]

  split-uncut : (rest : List ℕ) → position_or_len p rest ≡ length rest → slice_split p rest ≡ rest ∷ []
  split-uncut [] e = refl
  split-uncut (b ∷ bs) e = uncut (p b) refl e (split-uncut bs)
    where
      uncut : (t : Bool) → p b ≡ t → cond (not t) (1 + position_or_len p bs) 0 ≡ suc (length bs) →
          (position_or_len p bs ≡ length bs → slice_split p bs ≡ bs ∷ []) → slice_split p (b ∷ bs) ≡ (b ∷ bs) ∷ []
      uncut true is e more = absurd (omega arith)
      uncut false is e more = slice_split-cons_no p b bs is ∙ rw (more (omega arith)) refl

  -- A text without the byte is one part.
  pub parts-uncut : (xs : List ℕ) → position p xs ≡ None → slice_split p xs ≡ xs ∷ []
  parts-uncut xs e = split-uncut xs (position-none xs e)

  module _ (xs : List ℕ) (at : ℕ) (found : position p xs ≡ Some at) where
    place : position_or_len p xs ≡ at
    place = (cond_some (nat_lt (position_or_len p xs) (length xs)) (position_or_len p xs) at found).1

    -- The first such byte is in the text.
    pub inside : position_or_len p xs < length xs
    inside = ltb-true _ _ (cond_some (nat_lt (position_or_len p xs) (length xs)) (position_or_len p xs) at found).0

    -- The parts of a text are the one before the first such byte, and those of the rest.
    pub parts-cut : (front back : List ℕ) → front ≡ take at xs → back ≡ drop (at + 1) xs → slice_split p xs ≡ front ∷ slice_split p back
    parts-cut front back is_front is_back =
        slice_split_first p xs 0 inside
        ∙ ap (λ (i : ℕ). take i xs ∷ slice_split p (drop (i + 1) xs)) place
        ∙ ap (λ (us : List ℕ). us ∷ slice_split p (drop (at + 1) xs)) (sym is_front)
        ∙ ap (λ (us : List ℕ). front ∷ slice_split p us) (sym is_back)

    -- The rest is shorter than the text.
    pub rest_shorter : (back : List ℕ) → back ≡ drop (at + 1) xs → length back < length xs
    rest_shorter back is_back = let bound = inside in let same = place in omega (arith, ap length is_back, length-drop (at + 1) xs)
