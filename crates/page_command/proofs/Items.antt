-- The texts of the items of a list, appended one after another.
use Rattle.std.proofs.Common.{◌≡◌, ℕ, ◌+◌, ◌<◌, ◌≤◌, ◌⊎◌, inl, inr, List, [], ◌∷◌, ◌++◌, length, take, flat_map, Some, None}
use Rattle.std.proofs.Common.{sym, ap, ◌∙◌, arith}
use Rattle.std.specs.Prelude.{slice_get}
use Rattle.std.proofs.lemmas.List.{append-nil, flat_map_more, length-append, take_all, take_more}
use Rattle.std.proofs.lemmas.Option.{slice_get_cases, slice_get-get_or, slice_get_within}
use Rattle.std.proofs.Math.ListN.{get_or}

-- The text has grown by the first n items of a list.
pub record HasItems {X : Type 0} (text_of : X → List ℕ) (xs : List X) (n : ℕ) (old new : List ℕ) : Type 0 where
  pub are : new ≡ old ++ flat_map text_of (take n xs)
  pub few : n ≤ length xs
  -- each item has a byte, so they are fewer than the bytes of the text
  pub counted : n ≤ length new

-- Before the first item the text is as it was.
pub none_yet : {X : Type 0} (text_of : X → List ℕ) (xs : List X) (old : List ℕ) → HasItems text_of xs 0 old old
none_yet text_of xs old = record { are = sym (append-nil old); few = omega arith; counted = omega arith }

some_inj : {X : Type 0} (x y : X) → Some x ≡ Some y → x ≡ y
some_inj x y is = cc

-- After the next item it has one more.
pub one_item : {X : Type 0} (text_of : X → List ℕ) (xs : List X) (n : ℕ) (old new new' : List ℕ) (x : X) → HasItems text_of xs n old new →
    Some x ≡ slice_get xs n → new' ≡ new ++ text_of x → 0 < length (text_of x) → HasItems text_of xs (n + 1) old new'
one_item text_of xs n old new new' x has is next some =
    let within : n < length xs = slice_get_within xs n x (sym is) in
    let here : get_or xs n x ≡ x = some_inj _ _ (sym (slice_get-get_or xs n x within) ∙ sym is) in
    record {
      are = next ∙ ap (λ text. text ++ text_of x) has.are ∙ flat_map_more text_of old (take n xs) x
          ∙ ap (λ y. old ++ flat_map text_of (take n xs ++ y ∷ [])) (sym here)
          ∙ ap (λ ys. old ++ flat_map text_of ys) (sym (take_more xs n x within));
      few = omega (arith, within);
      counted =
          let longer : length new' ≡ length new + length (text_of x) = ap length next ∙ length-append new (text_of x) in
          let before = has.counted in
          omega (arith, longer, before, some);
    }

-- If there is no next item, it has all.
pub all_items : {X : Type 0} (text_of : X → List ℕ) (xs : List X) (n : ℕ) (old new : List ℕ) → HasItems text_of xs n old new →
    None ≡ slice_get xs n → new ≡ old ++ flat_map text_of xs
all_items text_of xs n old new has none = by (slice_get_cases xs n).1
  where
    by : ((x : _) × (n < length xs) × (slice_get xs n ≡ Some x) × (get_or xs n x ≡ x)) ⊎ ((length xs ≤ n) × (slice_get xs n ≡ None)) →
        new ≡ old ++ flat_map text_of xs
    by (inl found) = absurd (let some = found.2 in cc)
    by (inr past) = has.are ∙ ap (λ ys. old ++ flat_map text_of ys) (take_all n xs past.0)
