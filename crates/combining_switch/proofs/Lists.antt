-- Lists of numbers without repetition, lists of queues of which one is replaced, and the last element of a list.
use Rattle.std.proofs.Common.{◌≡◌, ℕ, zero, suc, ◌<◌, ◌≤◌, Bool, true, false, ◌||◌, eqb, List, [], ◌∷◌, ◌++◌}
use Rattle.std.proofs.Common.{map, length, get_or, set, take, drop, ◌-◌, ◌⊎◌, inl, inr, refl, sym, ap, ◌∙◌, subst}
use Rattle.std.proofs.Common.{arith, Some, None, eqb-true, ne_eqb, get_or-set_same, get_or-set_other}
use Rattle.std.specs.List.{AllByRecursion, IsDistinct, list_any}
use Rattle.std.specs.Prelude.{replicate, slice_get}
use Rattle.std.proofs.lemmas.Bool.{cases_eq}
use Rattle.std.proofs.lemmas.List.{get_or_past, set-get_or}
use Rattle.std.proofs.lemmas.Option.{same_Some}
use Rattle.std.proofs.lemmas.Map.Steps.{length-le_from_distinct_below}
use Rattle.messages.specs.Places.{In, Distinct}
use Rattle.messages.proofs.Lemmas.{Distinct-append, In-append}
use Rattle.combining_switch.specs.Links.{AreApart, IsUnlinked, LinkLists, queue_at, with_queue}
use Rattle.combining_switch.specs.Walks.{last_or}

-- ---- the last of a list

pub last_or-push : (d p : ℕ) (xs : List ℕ) → last_or d (xs ++ p ∷ []) ≡ p
last_or-push d p [] = refl
last_or-push d p (x ∷ xs) = last_or-push x p xs

pub last_or-In : (x : ℕ) (xs : List ℕ) → In (last_or x xs) (x ∷ xs)
last_or-In x [] = inl refl
last_or-In x (y ∷ ys) = inr (last_or-In y ys)

pub last_or-drop : (d : ℕ) (xs : List ℕ) → d ≡ last_or d xs → d ≡ last_or d (drop 1 xs)
last_or-drop d [] e = refl
last_or-drop d (x ∷ []) e = refl
last_or-drop d (x ∷ y ∷ ys) e = e

-- ---- the first of a list is taken

pub In-drop : {X : Type 0} (x : X) (xs : List X) → In x (drop 1 xs) → In x xs
In-drop x [] m = m
In-drop x (y ∷ ys) m = inr m

pub Distinct-drop : (ps : List ℕ) → Distinct ps → Distinct (drop 1 ps)
Distinct-drop [] d = tt
Distinct-drop (p ∷ ps) d = d.1

-- ---- how many numbers there may be

In_any : (q : ℕ) (ps : List ℕ) → list_any (eqb q) ps ≡ true → In q ps
In_any q [] e = cc
In_any q (p ∷ ps) e = go (In_any q ps) (eqb q p) refl e
  where
    go : (list_any (eqb q) ps ≡ true → In q ps) → (b : Bool) → eqb q p ≡ b → (b || list_any (eqb q) ps) ≡ true → In q (p ∷ ps)
    go rest true is h = inl (eqb-true q p is)
    go rest false is h = inr (rest h)

each_other : (p : ℕ) (ps : List ℕ) → (In p ps → ⊥) → IsDistinct eqb ps → IsDistinct eqb (p ∷ ps)
unfolding IsDistinct
each_other p ps out d = (go ps out, d)
  where
    go : (qs : List ℕ) → (In p qs → ⊥) → AllByRecursion (λ y. eqb p y ≡ false) qs
    go [] o = tt
    go (q ∷ qs) o = (ne_eqb p q (λ e. o (inl e)), go qs (λ m. o (inr m)))

is_distinct : (ps : List ℕ) → Distinct ps → IsDistinct eqb ps
unfolding IsDistinct
is_distinct [] d = tt
is_distinct (p ∷ ps) d = each_other p ps d.0 (is_distinct ps d.1)

-- There are at most n numbers below n, if no two of them are equal.
pub few_below : (ps : List ℕ) (n : ℕ) → Distinct ps → ((p : ℕ) → In p ps → p < n) → length ps ≤ n
few_below ps n d below = length-le_from_distinct_below ps n (is_distinct ps d) (λ q h. below q (In_any q ps h))

-- ---- one queue is replaced

-- If a queue gets numbers that it had, or that no queue had, no number is in the queues twice.
pub AreApart-with : (l : LinkLists) (q : ℕ) (ps : List ℕ) → AreApart l → q < length l.queues → Distinct ps →
    ((p : ℕ) → In p ps → In p (queue_at l q) ⊎ ((p < l.cells) × IsUnlinked l p)) → AreApart (with_queue l q ps)
AreApart-with l q ps apart there once from = record {
  within = λ r p m. elim (which r) [
    | inl h ↦ within_here p (subst (In p) h.1 m)
    | inr h ↦ apart.within r p (subst (In p) h.1 m)
  ];
  once = λ r. elim (which r) [
    | inl h ↦ subst Distinct (sym h.1) once
    | inr h ↦ subst Distinct (sym h.1) (apart.once r)
  ];
  in_one = λ r s p m o. elim (which r) [
    | inl h ↦ elim (which s) [
      | inl g ↦ h.0 ∙ sym g.0
      | inr g ↦ absurd (not_there s p g.0 (subst (In p) h.1 m) (subst (In p) g.1 o))
    ]
    | inr h ↦ elim (which s) [
      | inl g ↦ absurd (not_there r p h.0 (subst (In p) g.1 o) (subst (In p) h.1 m))
      | inr g ↦ apart.in_one r s p (subst (In p) h.1 m) (subst (In p) g.1 o)
    ]
  ];
}
  where
    which : (r : ℕ) → ((r ≡ q) × (queue_at (with_queue l q ps) r ≡ ps)) ⊎ ((r ≡ q → ⊥) × (queue_at (with_queue l q ps) r ≡ queue_at l r))
    which r = elim (cases_eq r q) [
      | inl e ↦ inl (e, ap (queue_at (with_queue l q ps)) e ∙ get_or-set_same l.queues q ps [] there)
      | inr n ↦ inr (n, get_or-set_other l.queues q r ps [] n)
    ]

    within_here : (p : ℕ) → In p ps → p < l.cells
    within_here p m = elim (from p m) [ inl had ↦ apart.within q p had | inr new ↦ new.0 ]

    not_there : (r p : ℕ) → (r ≡ q → ⊥) → In p ps → In p (queue_at l r) → ⊥
    not_there r p n m o = elim (from p m) [ inl had ↦ n (apart.in_one r q p o had) | inr new ↦ new.1 r o ]

pub AreApart-push : (l : LinkLists) (q p : ℕ) → AreApart l → q < length l.queues → p < l.cells → IsUnlinked l p →
    AreApart (with_queue l q (queue_at l q ++ p ∷ []))
AreApart-push l q p apart there below free = AreApart-with l q (queue_at l q ++ p ∷ []) apart there
    (Distinct-append (queue_at l q) (p ∷ []) (apart.once q) ((λ m. m), tt)
    (λ j m o. elim o [ inl e ↦ free q (subst (λ x. In x (queue_at l q)) e m) | inr i ↦ i ]))
    (λ x m. elim (In-append x (queue_at l q) (p ∷ []) m) [
      | inl had ↦ inl had
      | inr o ↦ elim o [ inl e ↦ inr (rw e below, rw e free) | inr i ↦ absurd i ]
    ])

pub AreApart-pop : (l : LinkLists) (q : ℕ) → AreApart l → q < length l.queues → AreApart (with_queue l q (drop 1 (queue_at l q)))
AreApart-pop l q apart there = AreApart-with l q (drop 1 (queue_at l q)) apart there (Distinct-drop (queue_at l q) (apart.once q))
    (λ p m. inl (In-drop p (queue_at l q) m))

-- ---- elements by their places

pub In-slice_get : {X : Type 0} (xs : List X) (i : ℕ) (x : X) → slice_get xs i ≡ Some x → In x xs
In-slice_get [] i x at = cc
In-slice_get (y ∷ xs) zero x at = inl (cc)
In-slice_get (y ∷ xs) (suc i) x at = inr (In-slice_get xs i x at)

-- An element of a list is at some place within the list's length.
pub slice_get_In : {X : Type 0} (xs : List X) (x : X) → In x xs → (i : ℕ) × (i < length xs) × (slice_get xs i ≡ Some x)
slice_get_In [] x m = elim m [ ]
slice_get_In (y ∷ xs) x (inl e) = (0, omega arith, ap Some (sym e))
slice_get_In (y ∷ xs) x (inr m) = let h = slice_get_In xs x m in (suc h.0, omega (arith, h.1), h.2)

-- A list that has nothing at a place has nothing at a later place.
pub none_after : {X : Type 0} (xs : List X) (i j : ℕ) → slice_get xs i ≡ None → i ≤ j → slice_get xs j ≡ None
none_after [] i j none le = refl
none_after (x ∷ xs) zero j none le = cc
none_after (x ∷ xs) (suc i) zero none le = absurd (omega arith)
none_after (x ∷ xs) (suc i) (suc j) none le = none_after xs i j none (omega arith)

-- ---- one element of a mapped list is replaced

module _ {X Y : Type 0} where
  -- An element read from a mapped list is the mapped element, even past the end.
  pub get_or-map_past : (f : X → Y) (xs : List X) (i : ℕ) (d : X) → get_or (map f xs) i (f d) ≡ f (get_or xs i d)
  get_or-map_past f [] i d = refl
  get_or-map_past f (x ∷ xs) zero d = refl
  get_or-map_past f (x ∷ xs) (suc i) d = get_or-map_past f xs i d

  -- If two functions agree on what is read at each place of a list, the mapped lists are equal.
  pub map_same : (f g : X → Y) (xs : List X) (d : X) → ((j : ℕ) → g (get_or xs j d) ≡ f (get_or xs j d)) → map g xs ≡ map f xs
  map_same f g [] d same = refl
  map_same f g (x ∷ xs) d same = (λ k. same 0 k ∷ map_same f g xs d (λ j. same (suc j)) k)

  -- If two functions differ at most at one place, replacing the element there makes the mapped lists equal.
  pub set-map_same : (f g : X → Y) (xs : List X) (i : ℕ) (d : X) (y : Y) → ((j : ℕ) → (j ≡ i → ⊥) → g (get_or xs j d) ≡ f (get_or xs j d)) →
      set (map g xs) i y ≡ set (map f xs) i y
  set-map_same f g [] i d y same = refl
  set-map_same f g (x ∷ xs) zero d y same = ap (λ ys. y ∷ ys) (map_same f g xs d (λ j. same (suc j) (λ e. omega arith)))
  set-map_same f g (x ∷ xs) (suc i) d y same =
      (λ k. same 0 (λ e. omega arith) k ∷ set-map_same f g xs i d y (λ j n. same (suc j) (λ e. n (omega arith))) k)

module _ {X : Type 0} where
  -- Two functions that differ at most at p map a list without p to the same.
  pub map_outside : (f g : ℕ → X) (p : ℕ) (ps : List ℕ) → ((r : ℕ) → (r ≡ p → ⊥) → g r ≡ f r) → (In p ps → ⊥) → map g ps ≡ map f ps
  map_outside f g p [] same out = refl
  map_outside f g p (r ∷ ps) same out =
      (λ k. same r (λ e. out (inl (sym e))) k ∷ map_outside f g p ps same (λ m. out (inr m)) k)

  -- Two functions that differ at most at p map a list with p to lists that differ at most at its place.
  pub map_at : (f g : ℕ → X) (p : ℕ) (ps : List ℕ) (i : ℕ) → ((r : ℕ) → (r ≡ p → ⊥) → g r ≡ f r) → Distinct ps → slice_get ps i ≡ Some p →
      map g ps ≡ set (map f ps) i (g p)
  map_at f g p [] i same once at = cc
  map_at f g p (r ∷ ps) zero same once at =
      let here : r ≡ p = cc in
      (λ k. g (here k) ∷ map_outside f g p ps same (subst (λ x. In x ps → ⊥) here once.0) k)
  map_at f g p (r ∷ ps) (suc i) same once at =
      (λ k. same r (λ e. once.0 (subst (λ x. In x ps) (sym e) (In-slice_get ps i p at))) k ∷ map_at f g p ps i same once.1 at k)

-- Taking the first number of an empty queue changes nothing.
pub nothing_taken : (l : LinkLists) (q n : ℕ) → n ≡ length (queue_at l q) → n ≡ 0 → l ≡ with_queue l q (drop 1 (queue_at l q))
nothing_taken l q n is none = λ i. record {
  cells = l.cells;
  queues = (sym (ap (set l.queues q) (empty (queue_at l q) (omega arith)) ∙ set-get_or l.queues
      q [])) i;
}
  where
    empty : (ps : List ℕ) → length ps ≡ 0 → drop 1 ps ≡ ps
    empty [] e = refl
    empty (p ∷ ps) e = absurd (omega arith)

-- An empty list made longer has only copies of the new element.
pub resized : {X : Type 0} (n m k : ℕ) (x : X) (old new : List X) → new ≡ take m old ++ replicate (m - k) x → old ≡ [] → k ≡ 0 → m ≡ n → new ≡ replicate n x
resized {X} n m k x old new is empty none same =
    is ∙ ap (λ xs. take m xs ++ replicate (m - k) x) empty ∙ ap (λ xs. xs ++ replicate (m - k) x) (nothing m) ∙ ap (λ j. replicate j x) (omega arith)
  where
    nothing : (j : ℕ) → take {A = X} j [] ≡ []
    nothing zero = refl
    nothing (suc j) = refl

-- If none of the queues that exist has a number, no queue has it.
pub no_queue_has : (l : LinkLists) (p n : ℕ) → ((q : ℕ) → q < n → In p (queue_at l q) → ⊥) → length l.queues ≤ n → IsUnlinked l p
no_queue_has l p n out all q i = elim (decide q n) [
  | inl lt ↦ out q lt i
  | inr le ↦ subst (In p) (get_or_past l.queues q [] (omega arith)) i
]
  where
    decide : (a b : ℕ) → (a < b) ⊎ (b ≤ a)
    decide a zero = inr (omega arith)
    decide zero (suc b) = inl (omega arith)
    decide (suc a) (suc b) = elim (decide a b) [ inl lt ↦ inl (omega arith) | inr le ↦ inr (omega arith) ]

-- The first number of a list without repetition is not in the rest.
front_leaves : (p : ℕ) (ps : List ℕ) → Distinct ps → slice_get ps 0 ≡ Some p → In p (drop 1 ps) → ⊥
front_leaves p [] d first m = m
front_leaves p (x ∷ xs) d first m = let same : x ≡ p = same_Some x p first in d.0 (subst (λ v. In v xs) (sym same) m)

-- The first number of a queue is in no queue after it is taken from there.
pub unlinked_after : (l : LinkLists) (q p : ℕ) → AreApart l → q < length l.queues → slice_get (queue_at l q) 0 ≡ Some p →
    IsUnlinked (with_queue l q (drop 1 (queue_at l q))) p
unlinked_after l q p apart there first r m = go m (cases_eq r q)
  where
    go : In p (get_or (set l.queues q (drop 1 (queue_at l q))) r []) → (r ≡ q) ⊎ (r ≡ q → ⊥) → ⊥
    go m (inl e) =
        let now : get_or (set l.queues q (drop 1 (queue_at l q))) r [] ≡ drop 1 (queue_at l q) =
        ap (λ v. get_or (set l.queues q (drop 1 (queue_at l q))) v []) e ∙ get_or-set_same l.queues q (drop 1 (queue_at l q)) [] there in
        front_leaves p (queue_at l q) (apart.once q) first (subst (In p) now m)
    go m (inr n) = n (apart.in_one r q p
        (subst (In p) (get_or-set_other l.queues q r (drop 1 (queue_at l q)) [] n) m) (In-slice_get (queue_at l q) 0 p first))
