-- Cuts of a text.
use Rattle.std.proofs.Common.{◌≡◌, ℕ, suc, ◌+◌, ◌<◌, Bool, true, false, cond, not, List, [], ◌∷◌, length, Some}
use Rattle.std.proofs.Common.{None, refl, ap, arith, sym, ◌∙◌, ◌++◌, append_assoc, map, Bor, inl, inr}
use Rattle.std.specs.List.{position_or_len, position, before_first, after_first, slice_split}
use Rattle.std.proofs.lemmas.List.{map-append}
use Rattle.std.proofs.lemmas.List.Splits.{slice_split_first, slice_split-cons_no}
use Rattle.std.proofs.lemmas.Bool.{cases_lt, lt-ltb}
use Rattle.std.proofs.lemmas.Option.{none-some}
use Rattle.std.proofs.lemmas.List.Sums.{prefix_len-le-length}

pub position-none : (p : ℕ → Bool) (xs : List ℕ) → position p xs ≡ None → position_or_len p xs ≡ length xs
position-none p xs e =
    elim (cases_lt (position_or_len p xs) (length xs)) [
      | inl lt ↦ let t : position p xs ≡ Some (position_or_len p xs) = rw (lt-ltb _ _ lt) refl in absurd (none-some _ (sym e ∙ t))
      | inr le ↦ omega (arith, prefix_len-le-length (λ x. not (p x)) xs)
    ]

slice_split-uncut : (p : ℕ → Bool) (rest : List ℕ) → position_or_len p rest ≡ length rest → slice_split p rest ≡ rest ∷ []
slice_split-uncut p [] e = refl
slice_split-uncut p (b ∷ bs) e = uncut (p b) refl e (slice_split-uncut p bs)
  where
    uncut : (t : Bool) → p b ≡ t → cond (not t) (1 + position_or_len p bs) 0 ≡ suc (length bs) →
        (position_or_len p bs ≡ length bs → slice_split p bs ≡ bs ∷ []) → slice_split p (b ∷ bs) ≡ (b ∷ bs) ∷ []
    uncut true is e more = absurd (omega arith)
    uncut false is e more = slice_split-cons_no p b bs is ∙ rw (more (omega arith)) refl

-- the pieces so far, each `f` of the bytes before a byte that passes, and the rest
module _ (p : ℕ → Bool) (f : List ℕ → List ℕ) where
  -- After a piece is cut off the rest, the pieces so far and those of the rest are still all pieces.
  pub pieces_more : (old new : List (Bor (List ℕ))) (x : Bor (List ℕ)) (rest after : List ℕ) (all : List (List ℕ)) → new ≡ old ++ x ∷ [] →
      position_or_len p rest < length rest → x.now ≡ f (before_first p rest) → after ≡ after_first p rest
      → map (λ (y : Bor (List ℕ)). y.now) old ++ map f (slice_split p rest) ≡ all → map (λ (y : Bor (List ℕ)). y.now) new ++ map f (slice_split p after) ≡ all
  pieces_more old new x rest after all is_new lt is_x is_after so_far =
      let cut : map f (slice_split p rest) ≡ x.now ∷ map f (slice_split p after) = ap (map f) (slice_split_first p rest 0 lt) ∙ rw (← is_x, ← is_after) refl in
      rw (is_new, map-append, append_assoc, ← cut) so_far

  -- If the rest is not cut, the pieces so far and the rest are all pieces.
  pub pieces_all : (old new : List (Bor (List ℕ))) (x : Bor (List ℕ)) (rest : List ℕ) (all : List (List ℕ)) → new ≡ old ++ x ∷ [] →
      position_or_len p rest ≡ length rest → x.now ≡ f rest
      → map (λ (y : Bor (List ℕ)). y.now) old ++ map f (slice_split p rest) ≡ all → map (λ (y : Bor (List ℕ)). y.now) new ≡ all
  pieces_all old new x rest all is_new none is_x so_far =
      let cut : map f (slice_split p rest) ≡ x.now ∷ [] = ap (map f) (slice_split-uncut p rest none) ∙ rw is_x refl in
      rw (is_new, map-append, ← cut) so_far

-- A list that is mapped by the identity stays the same.
pub map_same : (xs : List (List ℕ)) → map (λ (x : List ℕ). x) xs ≡ xs
map_same [] = refl
map_same (x ∷ xs) = ap (λ (ys : List (List ℕ)). x ∷ ys) (map_same xs)
