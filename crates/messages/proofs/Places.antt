-- Functions of places with one place changed, and elements of lists.
use Rattle.std.proofs.Common.{◌≡◌, ℕ, Bool, true, false, cond, eqb, List, [], ◌∷◌, ◌++◌, map, filter}
use Rattle.std.proofs.Common.{◌⊎◌, inl, inr, refl, sym, ap, ◌∙◌, subst, eq-eqb, eqb-true, ne_eqb}
use Rattle.std.proofs.lemmas.Bool.{cases_eq}
use Rattle.std.proofs.lemmas.List.{map-append}
use mathlib.Core.Path.{fun_ext}
use Rattle.messages.specs.Places.{put, put2, In, Distinct, ApartBy}

-- After x is put at a depth and wire, x is there.
pub put2_same : {X : Type 0} (f : ℕ → ℕ → X) (d w : ℕ) (x : X) → put2 f d w x d w ≡ x
unfolding put2
put2_same f d w x = simp (eq-eqb d d refl, eq-eqb w w refl)

-- After x is put at a depth and wire, each other place is as before.
pub put2_other : {X : Type 0} (f : ℕ → ℕ → X) (d w : ℕ) (x : X) (d' w' : ℕ) → (d' ≡ d → w' ≡ w → ⊥) → put2 f d w x d' w' ≡ f d' w'
unfolding put2
put2_other f d w x d' w' away = go (eqb d' d) (eqb w' w) refl refl
  where
    go : (a b : Bool) → eqb d' d ≡ a → eqb w' w ≡ b → cond (eqb d' d) (cond (eqb w' w) x (f d' w')) (f d' w') ≡ f d' w'
    go true true p q = absurd (away (eqb-true d' d p) (eqb-true w' w q))
    go true false p q = simp (p, q)
    go false b p q = simp p

-- Each place is the one at which x was put, or another, which is as before.
pub at_put2 : {X : Type 0} (f : ℕ → ℕ → X) (d w : ℕ) (x : X) (d' w' : ℕ) →
    ((d' ≡ d) × (w' ≡ w) × (put2 f d w x d' w' ≡ x)) ⊎ ((d' ≡ d → w' ≡ w → ⊥) × (put2 f d w x d' w' ≡ f d' w'))
at_put2 {X} f d w x d' w' = go (cases_eq d' d) (cases_eq w' w)
  where
    Goal : Type 0
    Goal = ((d' ≡ d) × (w' ≡ w) × (put2 f d w x d' w' ≡ x)) ⊎ ((d' ≡ d → w' ≡ w → ⊥) × (put2 f d w x d' w' ≡ f d' w'))

    go : (d' ≡ d) ⊎ (d' ≡ d → ⊥) → (w' ≡ w) ⊎ (w' ≡ w → ⊥) →
        ((d' ≡ d) × (w' ≡ w) × (put2 f d w x d' w' ≡ x)) ⊎ ((d' ≡ d → w' ≡ w → ⊥) × (put2 f d w x d' w' ≡ f d' w'))
    go (inl p) (inl q) = inl (p, q, rw (p, q) (put2_same f d w x))
    go (inl p) (inr n) = inr ((λ _ b. n b), put2_other f d w x d' w' (λ _ b. n b))
    go (inr n) e = inr ((λ a _. n a), put2_other f d w x d' w' (λ a _. n a))

-- An element at a place after a put is one that was put there, or one of another place, as before.
pub In-put2 : {X : Type 0} (f : ℕ → ℕ → List X) (d w : ℕ) (xs : List X) (d' w' : ℕ) (y : X) → In y (put2 f d w xs d' w') →
    ((d' ≡ d) × (w' ≡ w) × In y xs) ⊎ ((d' ≡ d → w' ≡ w → ⊥) × In y (f d' w'))
In-put2 {X} f d w xs d' w' y m = go (at_put2 f d w xs d' w')
  where
    go : ((d' ≡ d) × (w' ≡ w) × (put2 f d w xs d' w' ≡ xs)) ⊎ ((d' ≡ d → w' ≡ w → ⊥) × (put2 f d w xs d' w' ≡ f d' w')) →
        ((d' ≡ d) × (w' ≡ w) × In y xs) ⊎ ((d' ≡ d → w' ≡ w → ⊥) × In y (f d' w'))
    go (inl h) = inl (h.0, h.1, subst (In y) h.2 m)
    go (inr h) = inr (h.0, subst (In y) h.1 m)

-- If a property holds of x and of every place, it holds of every place after x is put.
pub each_put2 : {X : Type 0} (P : X → Type 0) (f : ℕ → ℕ → X) (d w : ℕ) (x : X) → P x → ((d' w' : ℕ) → P (f d' w')) → (d' w' : ℕ) → P (put2 f d w x d' w')
each_put2 {X} P f d w x h others d' w' = go (at_put2 f d w x d' w')
  where
    go : ((d' ≡ d) × (w' ≡ w) × (put2 f d w x d' w' ≡ x)) ⊎ ((d' ≡ d → w' ≡ w → ⊥) × (put2 f d w x d' w' ≡ f d' w')) → P (put2 f d w x d' w')
    go (inl e) = subst P (sym e.2) h
    go (inr e) = subst P (sym e.1) (others d' w')

module _ {X : Type 0} where
  -- A function that has x at a place, and is the same elsewhere, is the old one with x put there.
  pub is_put2 : (f g : ℕ → ℕ → X) (d w : ℕ) (x : X) → g d w ≡ x → ((d' w' : ℕ) → (d' ≡ d → w' ≡ w → ⊥) → g d' w' ≡ f d' w') → g ≡ put2 f d w x
  is_put2 f g d w x here others = fun_ext (λ d'. fun_ext (λ w'. go d' w' (at_put2 f d w x d' w')))
    where
      go : (d' w' : ℕ) → ((d' ≡ d) × (w' ≡ w) × (put2 f d w x d' w' ≡ x)) ⊎ ((d' ≡ d → w' ≡ w → ⊥) × (put2 f d w x d' w' ≡ f d' w'))
          → g d' w' ≡ put2 f d w x d' w'
      go d' w' (inl h) = (λ i. g (h.0 i) (h.1 i)) ∙ here ∙ sym h.2
      go d' w' (inr h) = others d' w' h.0 ∙ sym h.1

  -- Putting what is at a place already changes nothing.
  pub put2_id : (f : ℕ → ℕ → X) (d w : ℕ) → put2 f d w (f d w) ≡ f
  put2_id f d w = sym (is_put2 f f d w (f d w) refl (λ d' w' away. refl))

  -- Puts at two depths can be done in either order.
  pub put2_comm : (f : ℕ → ℕ → X) (d w : ℕ) (x : X) (e v : ℕ) (y : X) → (d ≡ e → ⊥) → put2 (put2 f d w x) e v y ≡ put2 (put2 f e v y) d w x
  put2_comm f d w x e v y apart = sym (is_put2 (put2 f d w x) (put2 (put2 f e v y) d w x) e v y
      (put2_other (put2 f e v y) d w x e v (λ a b. apart (sym a)) ∙ put2_same f e v y)
      (λ d' w' away. go d' w' away (at_put2 f d w x d' w')))
    where
      go : (d' w' : ℕ) → (d' ≡ e → w' ≡ v → ⊥) → ((d' ≡ d) × (w' ≡ w) × (put2 f d w x d' w' ≡ x)) ⊎ ((d' ≡ d → w' ≡ w → ⊥) × (put2 f d w x d' w' ≡ f d' w'))
          → put2 (put2 f e v y) d w x d' w' ≡ put2 f d w x d' w'
      go d' w' away (inl h) = (λ i. put2 (put2 f e v y) d w x (h.0 i) (h.1 i)) ∙ put2_same (put2 f e v y) d w x ∙ sym h.2
      go d' w' away (inr h) = put2_other (put2 f e v y) d w x d' w' h.0 ∙ put2_other f e v y d' w' away ∙ sym h.1

-- After x is put at p, x is there.
pub put_same : {X : Type 0} (f : ℕ → X) (p : ℕ) (x : X) → put f p x p ≡ x
unfolding put
put_same f p x = simp (eq-eqb p p refl)

-- After x is put at p, each other place is as before.
pub put_other : {X : Type 0} (f : ℕ → X) (p : ℕ) (x : X) (q : ℕ) → (q ≡ p → ⊥) → put f p x q ≡ f q
unfolding put
put_other f p x q n = simp (ne_eqb q p n)

pub In-append : {X : Type 0} (x : X) (xs ys : List X) → In x (xs ++ ys) → In x xs ⊎ In x ys
In-append x [] ys m = inr m
In-append x (y ∷ xs) ys (inl e) = inl (inl e)
In-append x (y ∷ xs) ys (inr m) = elim (In-append x xs ys m) [ inl a ↦ inl (inr a) | inr b ↦ inr b ]

pub In-append_left : {X : Type 0} (x : X) (xs ys : List X) → In x xs → In x (xs ++ ys)
In-append_left x [] ys m = elim m [ ]
In-append_left x (y ∷ xs) ys (inl e) = inl e
In-append_left x (y ∷ xs) ys (inr m) = inr (In-append_left x xs ys m)

pub In-append_right : {X : Type 0} (x : X) (xs ys : List X) → In x ys → In x (xs ++ ys)
In-append_right x [] ys m = m
In-append_right x (y ∷ xs) ys m = inr (In-append_right x xs ys m)

pub In-filter : {X : Type 0} (p : X → Bool) (x : X) (xs : List X) → In x (filter p xs) → In x xs × (p x ≡ true)
In-filter p x [] m = elim m [ ]
In-filter {X} p x (y ∷ xs) m = go (λ a. In-filter p x xs a) (p y) refl m
  where
    go : (In x (filter p xs) → In x xs × (p x ≡ true)) → (b : Bool) → p y ≡ b → In x (cond b (y ∷ filter p xs) (filter p xs)) → In x (y ∷ xs) × (p x ≡ true)
    go rec true e (inl s) = (inl s, ap p s ∙ e)
    go rec true e (inr a) = let h = rec a in (inr h.0, h.1)
    go rec false e a = let h = rec a in (inr h.0, h.1)

pub In-map : {X : Type 0} (f : X → ℕ) (x : X) (xs : List X) → In x xs → In (f x) (map f xs)
In-map f x [] m = elim m [ ]
In-map f x (y ∷ xs) (inl e) = inl (ap f e)
In-map f x (y ∷ xs) (inr m) = inr (In-map f x xs m)

-- An element of a mapped list comes from an element of the list.
pub In-map_from : {X : Type 0} (f : X → ℕ) (j : ℕ) (xs : List X) → In j (map f xs) → (x : X) × In x xs × (f x ≡ j)
In-map_from f j [] m = elim m [ ]
In-map_from f j (y ∷ xs) (inl e) = (y, inl refl, sym e)
In-map_from f j (y ∷ xs) (inr m) = let h = In-map_from f j xs m in (h.0, inr h.1, h.2)

pub Distinct-append : (js ks : List ℕ) → Distinct js → Distinct ks → ((j : ℕ) → In j js → In j ks → ⊥) → Distinct (js ++ ks)
Distinct-append [] ks a b n = b
Distinct-append (j ∷ js) ks a b n =
    ((λ m. elim (In-append j js ks m) [ inl h ↦ a.0 h | inr h ↦ n j (inl refl) h ]), Distinct-append js ks a.1 b (λ i m. n i (inr m)))

pub ApartBy-push : {X : Type 0} (f : X → ℕ) (xs : List X) (y : X) → ApartBy f xs → ((x : X) → In x xs → f x ≡ f y → ⊥) → ApartBy f (xs ++ y ∷ [])
ApartBy-push f xs y a n =
    rw (map-append f xs (y ∷ [])) (Distinct-append (map f xs) (f y ∷ []) a ((λ m. m), tt)
    (λ j m o. elim o [ inl e ↦ (let h = In-map_from f j xs m in n h.0 h.1 (h.2 ∙ e)) | inr i ↦ i ]))

pub ApartBy-filter : {X : Type 0} (f : X → ℕ) (p : X → Bool) (xs : List X) → ApartBy f xs → ApartBy f (filter p xs)
ApartBy-filter f p [] a = tt
ApartBy-filter {X} f p (y ∷ xs) a = go (ApartBy-filter f p xs a.1) (p y)
  where
    go : ApartBy f (filter p xs) → (b : Bool) → ApartBy f (cond b (y ∷ filter p xs) (filter p xs))
    go rec true =
        ((λ m. let h = In-map_from f (f y) (filter p xs) m in a.0 (subst (λ z. In z (map f xs)) h.2 (In-map f h.0 xs ((In-filter p h.0 xs h.1).0)))), rec)
    go rec false = rec

-- If no two elements have the same f, elements with the same f are equal.
pub ApartBy-same : {X : Type 0} (f : X → ℕ) (x y : X) (xs : List X) → ApartBy f xs → In x xs → In y xs → f x ≡ f y → x ≡ y
ApartBy-same f x y [] a m o e = elim m [ ]
ApartBy-same f x y (z ∷ xs) a (inl m) (inl o) e = m ∙ sym o
ApartBy-same f x y (z ∷ xs) a (inl m) (inr o) e = absurd (a.0 (subst (λ j. In j (map f xs)) (sym e ∙ ap f m) (In-map f y xs o)))
ApartBy-same f x y (z ∷ xs) a (inr m) (inl o) e = absurd (a.0 (subst (λ j. In j (map f xs)) (e ∙ ap f o) (In-map f x xs m)))
ApartBy-same f x y (z ∷ xs) a (inr m) (inr o) e = ApartBy-same f x y xs a.1 m o e

-- If no element passes, the filtered list is empty.
pub filter_none : {X : Type 0} (p : X → Bool) (xs : List X) → ((x : X) → In x xs → p x ≡ true → ⊥) → filter p xs ≡ []
filter_none p [] h = refl
filter_none {X} p (y ∷ xs) h = go (filter_none p xs (λ x m. h x (inr m))) (p y) refl
  where
    go : filter p xs ≡ [] → (b : Bool) → p y ≡ b → cond b (y ∷ filter p xs) (filter p xs) ≡ []
    go rec true e = absurd (h y (inl refl) e)
    go rec false e = rec

pub ApartBy-middle : {X : Type 0} (f : X → ℕ) (xs : List X) (x : X) (ys : List X) → ApartBy f (xs ++ x ∷ ys) → (y : X) → In y (xs ++ ys) → f y ≡ f x → ⊥
ApartBy-middle f [] x ys a y m e = a.0 (subst (λ j. In j (map f ys)) e (In-map f y ys m))
ApartBy-middle f (z ∷ xs) x ys a y (inl s) e =
    a.0 (subst (λ j. In j (map f (xs ++ x ∷ ys))) (sym e ∙ ap f s) (In-map f x (xs ++ x ∷ ys) (In-append_right x xs (x ∷ ys) (inl refl))))
ApartBy-middle f (z ∷ xs) x ys a y (inr m) e = ApartBy-middle f xs x ys a.1 y m e
