-- A change of priority, segment by segment.
use Rattle.std.proofs.Common.{◌≡◌, ℕ, zero, suc, ◌+◌, ◌-◌, ◌≤◌, ◌<◌, Bool, true, false, List, [], ◌∷◌, ◌++◌}
use Rattle.std.proofs.Common.{take, drop, length, refl, sym, ap, ◌∙◌, append_assoc, arith, length-append, length-set}
use Rattle.std.specs.Prelude.{◌==◌, slice_index_or, slice_set, if◌then◌else◌}
use Rattle.std.proofs.Math.Seq.{drop-cons, take-suc}
use Rattle.std.proofs.lemmas.Bool.{le-ltb, lt-ltb}
use Rattle.std.proofs.lemmas.List.{append-nil, drop_all, take_all}
use Rattle.random_schedules.specs.declared.epoch.Segment.{Segment}
use Rattle.random_schedules.specs.Epochs.{cut_at, lowered, segment, segment_if}

-- A list in which one item is set is the items before it, the new item, and those after it.
set_splits : (xs : List Segment) (i : ℕ) (y : Segment) → i < length xs → slice_set xs i y ≡ take i xs ++ y ∷ drop (suc i) xs
set_splits [] i y less = absurd (omega (arith, less))
set_splits (x ∷ xs) zero y less = refl
set_splits (x ∷ xs) (suc i) y less = ap (λ ys. x ∷ ys) (set_splits xs i y (omega (arith, less)))

module _ (xs : List Segment) (i place : ℕ) (s : Segment) (less : i < length xs) (is : s ≡ slice_index_or xs i (segment 0 0)) where
  drop_here : drop i xs ≡ s ∷ drop (suc i) xs
  drop_here = drop-cons xs i (segment 0 0) less ∙ ap (λ y. y ∷ drop (suc i) xs) (sym is)

  take_here : take (suc i) xs ≡ take i xs ++ s ∷ []
  take_here = take-suc xs i (segment 0 0) less ∙ ap (λ y. take i xs ++ y ∷ []) (sym is)

  abbrev rest : List Segment
  rest = drop (suc i) xs

  -- If the place comes after a segment, the change is made after it.
  pub lowered_past : s.turns ≤ place → take i xs ++ lowered place (drop i xs) ≡ take (i + 1) xs ++ lowered (place - s.turns) (drop (i + 1) xs)
  unfolding lowered
  lowered_past past =
      ap (λ ys. take i xs ++ lowered place ys) drop_here
      ∙ ap (λ b. take i xs ++ (if b then segment s.processor (place + 1) ∷ rest ++ segment_if s.processor (s.turns - (place + 1))
      else s ∷ lowered (place - s.turns) rest)) (le-ltb place s.turns past)
      ∙ sym (append_assoc (take i xs) (s ∷ []) (lowered (place - s.turns) rest))
      ∙ ap (λ ys. ys ++ lowered (place - s.turns) rest) (sym take_here)
      ∙ ap (λ j. take j xs ++ lowered (place - s.turns) (drop j xs)) (let same : suc i ≡ i + 1 = omega arith in same)

  -- If the place is in a segment, the segment is cut after it.
  pub lowered_here : place < s.turns → take i xs ++ lowered place (drop i xs) ≡ cut_at i s (place + 1) xs
  unfolding lowered
  lowered_here inside =
      ap (λ ys. take i xs ++ lowered place ys) drop_here
      ∙ ap (λ b. take i xs ++ (if b then segment s.processor (place + 1) ∷ rest ++ segment_if s.processor (s.turns - (place + 1))
      else s ∷ lowered (place - s.turns) rest)) (lt-ltb place s.turns inside)
      ∙ sym (append_assoc (take i xs) (segment s.processor (place + 1) ∷ rest) (segment_if s.processor (s.turns - (place + 1))))
      ∙ ap (λ ys. ys ++ segment_if s.processor (s.turns - (place + 1))) (sym (set_splits xs i (segment s.processor (place + 1)) less))

-- A place after all segments changes nothing.
pub lowered_nowhere : (xs : List Segment) (i place : ℕ) → i ≡ length xs → take i xs ++ lowered place (drop i xs) ≡ xs
unfolding lowered
lowered_nowhere xs i place all =
    ap (λ ys. take i xs ++ lowered place ys) (drop_all i xs (omega (arith, all)))
    ∙ append-nil (take i xs) ∙ take_all i xs (omega (arith, all))

-- A cut adds one segment at most.
pub cut_length : (xs : List Segment) (i turns : ℕ) (s : Segment) → length (cut_at i s turns xs) ≤ length xs + 1
cut_length xs i turns s =
    (let both = length-append (slice_set xs i (segment s.processor turns)) (segment_if s.processor (s.turns - turns)) in
    let same = length-set xs i (segment s.processor turns) in
    let one = by (s.turns - turns == 0) in
    omega (arith, both, same, one))
  where
    by : (b : Bool) → length (if b then [] else segment s.processor (s.turns - turns) ∷ []) ≤ 1
    by true = omega arith
    by false = omega arith
