-- Lists of a view that are made element by element.
use Rattle.std.proofs.Common.{◌≡◌, ℕ, ◌+◌, ◌≤◌, ◌<◌, ◌⊎◌, inl, inr, List, [], ◌∷◌, ◌++◌, length, take, map, Option, Some, None}
use Rattle.std.proofs.Common.{refl, sym, ap, ◌∙◌, subst, arith}
use Rattle.std.specs.Prelude.{slice_get}
use Rattle.std.proofs.lemmas.List.{length_push, map_more, take_all}
use Rattle.std.proofs.lemmas.List.FromFn.{map-range_with_len_more}
use Rattle.std.proofs.lemmas.Option.{slice_get_cases, slice_get-get_or, slice_get_within}
use Rattle.std.proofs.Math.ListN.{get_or}
use Rattle.machine_views.specs.Places.{each_below}

-- The items below a greater count are those below it, and the item at it.
pub below_more : {A : Type 0} (item_at : ℕ → A) (n : ℕ) → each_below item_at (n + 1) ≡ each_below item_at n ++ item_at n ∷ []
below_more item_at n = map-range_with_len_more item_at 0 n n (omega arith)

-- If the next item is appended to the items below a count, they are the items below the next count.
pub one_more : {A : Type 0} (item_at : ℕ → A) (n : ℕ) (xs xs' : List A) (x : A) → xs ≡ each_below item_at n → x ≡ item_at n → xs' ≡ xs ++ x ∷ [] →
    xs' ≡ each_below item_at (n + 1)
one_more item_at n xs xs' x before is next =
    next ∙ ap (λ ys. ys ++ x ∷ []) before ∙ ap (λ y. each_below item_at n ++ y ∷ []) is ∙ sym (below_more item_at n)

-- These are views of the first elements, as many as there are views.
pub record AreViews {X Y : Type 0} (view : X → Y) (xs : List X) (ys : List Y) : Type 0 where
  -- they are views of the first elements, in order
  pub are : ys ≡ map view (take (length ys) xs)
  -- they are no more than the elements
  pub few : length ys ≤ length xs

pub no_views : {X Y : Type 0} (view : X → Y) (xs : List X) → AreViews view xs []
no_views view xs = record { are = refl; few = omega arith }

some_inj : {X : Type 0} (x y : X) → Some x ≡ Some y → x ≡ y
some_inj x y is = cc

-- After the view of the next element is appended, they are still views of the first elements.
pub views_more : {X Y : Type 0} (view : X → Y) (xs : List X) (ys ys' : List Y) (x : X) → AreViews view xs ys → Some x ≡ slice_get xs (length ys) →
    ys' ≡ ys ++ view x ∷ [] → AreViews view xs ys'
views_more view xs ys ys' x are is next =
    let within : length ys < length xs = slice_get_within xs (length ys) x (sym is) in
    let here : get_or xs (length ys) x ≡ x = some_inj _ _ (sym (slice_get-get_or xs (length ys) x within) ∙ sym is) in
    let longer : length ys' ≡ length ys + 1 = ap length next ∙ length_push ys (view x) in
    record {
      are = next ∙ ap (λ zs. zs ++ view x ∷ []) are.are ∙ ap (λ z. map view (take (length ys) xs) ++ view z ∷ []) (sym here)
          ∙ sym (map_more view xs (length ys) x within) ∙ ap (λ n. map view (take n xs)) (sym longer);
      few = subst (λ n. n ≤ length xs) (sym longer) (omega arith);
    }

-- If there is no next element, they are the views of all elements.
pub views_all : {X Y : Type 0} (view : X → Y) (xs : List X) (ys : List Y) → AreViews view xs ys → None ≡ slice_get xs (length ys) → ys ≡ map view xs
views_all view xs ys are none = by (slice_get_cases xs (length ys)).1
  where
    by : ((x : _) × (length ys < length xs) × (slice_get xs (length ys) ≡ Some x) × (get_or xs (length ys) x ≡ x))
        ⊎ ((length xs ≤ length ys) × (slice_get xs (length ys) ≡ None)) → ys ≡ map view xs
    by (inl found) = absurd (let some = found.2 in cc)
    by (inr past) = are.are ∙ ap (map view) (take_all (length ys) xs past.0)
