-- Places of lists, and lists of a function's values at each place.
use Rattle.std.proofs.Common.{◌≡◌, ◌≢◌, ◌⊎◌, inl, inr, ℕ, ◌+◌, ◌<◌, ◌≤◌, zero, suc, List, [], ◌∷◌}
use Rattle.std.proofs.Common.{Some, None, length, map, refl, sym, ap, subst, ◌∙◌, arith}
use Rattle.std.specs.Prelude.{slice_get, slice_set, slice_index_or}
use Rattle.std.specs.List.{range_with_len}
use Rattle.std.proofs.lemmas.Bool.{cases_eq, cases_lt}
use Rattle.std.proofs.lemmas.List.{length-set, get_or-set_same, get_or-set_other}
use Rattle.std.proofs.lemmas.List.FromFn.{length-map-range_with_len, get_or-map-range_with_len, fill_by_all}

-- A number below n + 1 is below n, or n.
pub up_to : (k n : ℕ) → k < n + 1 → (k < n) ⊎ (k ≡ n)
up_to k n l = elim (cases_lt k n) [ inl less ↦ inl less | inr past ↦ inr (omega (arith, l, past)) ]

-- Within its length, a list has the element that is read with any default.
pub there : {X : Type 0} (xs : List X) (k : ℕ) (d : X) → k < length xs → slice_get xs k ≡ Some (slice_index_or xs k d)
there [] k d l = absurd (omega (arith, l))
there (x ∷ xs) zero d l = refl
there (x ∷ xs) (suc k) d l = there xs k d (omega (arith, l))

-- If a list has an element at a place, the place is within its length, and reading it with any default gives the element.
pub found_at : {X : Type 0} (xs : List X) (k : ℕ) (x d : X) → slice_get xs k ≡ Some x → (k < length xs) × (slice_index_or xs k d ≡ x)
found_at [] k x d e = absurd (cc)
found_at (y ∷ ys) zero x d e = (omega arith, (let same : y ≡ x = cc in same))
found_at (y ∷ ys) (suc k) x d e = let h = found_at ys k x d e in let less = h.0 in (omega (arith, less), h.1)

-- A place at which a list has no element is not within its length.
pub past : {X : Type 0} (xs : List X) (k : ℕ) → slice_get xs k ≡ None → length xs ≤ k
past [] k e = omega arith
past (x ∷ xs) zero e = absurd cc
past (x ∷ xs) (suc k) e = let h = past xs k e in omega (arith, h)

-- Within a list's length, what is read does not depend on the default.
pub any_default : {X : Type 0} (xs : List X) (k : ℕ) (c d : X) → k < length xs → slice_index_or xs k c ≡ slice_index_or xs k d
any_default [] k c d l = absurd (omega (arith, l))
any_default (x ∷ xs) zero c d l = refl
any_default (x ∷ xs) (suc k) c d l = any_default xs k c d (omega (arith, l))

-- At the place of an element, the mapped list has the function's value for it.
pub mapped_at : {X Y : Type 0} (f : X → Y) (xs : List X) (k : ℕ) (x : X) (d : Y) → slice_get xs k ≡ Some x → slice_index_or (map f xs) k d ≡ f x
mapped_at f [] k x d e = absurd (cc)
mapped_at f (y ∷ ys) zero x d e = let same : y ≡ x = cc in ap f same
mapped_at f (y ∷ ys) (suc k) x d e = mapped_at f ys k x d e

module _ {X : Type 0} (f : ℕ → X) (n : ℕ) where
  abbrev pub listed : List X
  listed = map f (range_with_len 0 n)

  -- At each place below n, the list of the first n values of a function is read as the value there.
  pub listed_at : (k : ℕ) (d : X) → k < n → slice_index_or listed k d ≡ f k
  listed_at k d l = get_or-map-range_with_len f 0 n k k d l (omega arith)

  -- At each place below n, the list of the first n values of a function has the value there.
  pub listed_there : (k : ℕ) → k < n → slice_get listed k ≡ Some (f k)
  listed_there k l = there listed k (f k) (subst (λ m. k < m) (sym (length-map-range_with_len f 0 n)) l) ∙ ap Some (listed_at k (f k) l)

  -- What the list of the first n values has at a place is the function's value there, and the place is below n.
  pub listed_is : (k : ℕ) (x : X) → slice_get listed k ≡ Some x → (k < n) × (f k ≡ x)
  listed_is k x e =
      let h = found_at listed k x x e in
      let l : k < n = subst (λ m. k < m) (length-map-range_with_len f 0 n) h.0 in
      (l, sym (listed_at k x l) ∙ h.1)

  -- If two functions agree below n, their lists of the first n values are the same.
  pub listed_same : (g : ℕ → X) → ((i : ℕ) → i < n → g i ≡ f i) → map g (range_with_len 0 n) ≡ listed
  listed_same g e =
      sym (fill_by_all g listed n (f 0) (length-map-range_with_len f 0 n) (λ i l. listed_at i (f 0) l ∙ sym (e i l)))

  -- If two functions agree below n except at one place, one list is the other with the value there written.
  pub listed_set : (g : ℕ → X) (k : ℕ) (x : X) → k < n → g k ≡ x → ((i : ℕ) → i ≢ k → i < n → g i ≡ f i) → map g (range_with_len 0 n) ≡ slice_set listed k x
  listed_set g k x within here others =
      sym (fill_by_all g (slice_set listed k x) n x (length-set listed k x ∙ length-map-range_with_len f 0 n) (λ i l. at i l (cases_eq i k)))
    where
      at : (i : ℕ) → i < n → (i ≡ k) ⊎ (i ≡ k → ⊥) → slice_index_or (slice_set listed k x) i x ≡ g i
      at i l (inl same) =
          ap (λ j. slice_index_or (slice_set listed k x) j x) same
          ∙ (get_or-set_same listed k x x (subst (λ m. k < m) (sym (length-map-range_with_len f 0 n)) within) ∙ (sym here ∙ ap g (sym same)))
      at i l (inr other) = get_or-set_other listed k i x x other ∙ (listed_at i x l ∙ sym (others i other l))
