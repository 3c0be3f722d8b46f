-- What a reply gives, and what a group finds, after records and functions change.
use Rattle.std.proofs.Common.{◌≡◌, ℕ, zero, suc, ◌<◌, List, [], ◌∷◌, ◌++◌, flat_map, ◌⊎◌, inl, inr}
use Rattle.std.proofs.Common.{refl, sym, ap, ap₂, ◌∙◌, subst, arith, append-nil, append_assoc}
use Rattle.std.proofs.lemmas.List.Concat.{flat_map-append}
use Rattle.messages.specs.phi_algebra.declared.phi.Phi.{Phi}
use Rattle.messages.specs.declared.message.Record.{Record}
use Rattle.messages.specs.Places.{In}
use Rattle.messages.specs.Queues.{applied}
use Rattle.network_theory.specs.Giving.{gives, finds, leaves}
use Rattle.messages.proofs.Lemmas.{In-append, In-append_left, In-append_right}

pub finds-append : (own : ℕ → Phi) (js ks : List ℕ) (y : ℕ) → finds own (js ++ ks) y ≡ finds own js y ++ finds own ks (leaves own js y)
unfolding finds leaves
finds-append own [] ks y = refl
finds-append own (j ∷ js) ks y = ap (λ z. (j, y) ∷ z) (finds-append own js ks (applied (own j) y))

pub leaves-append : (own : ℕ → Phi) (js ks : List ℕ) (y : ℕ) → leaves own (js ++ ks) y ≡ leaves own ks (leaves own js y)
unfolding leaves
leaves-append own [] ks y = refl
leaves-append own (j ∷ js) ks y = leaves-append own js ks (applied (own j) y)

flat_map_agree : {X A : Type 0} (f g : X → List A) (xs : List X) → ((x : X) → In x xs → f x ≡ g x) → flat_map f xs ≡ flat_map g xs
flat_map_agree f g [] h = refl
flat_map_agree f g (x ∷ xs) h = ap₂ (λ a b. a ++ b) (h x (inl refl)) (flat_map_agree f g xs (λ y m. h y (inr m)))

-- If no record has p as its second, a change of p's records does not change what another leader gives.
pub gives_frame : (R S : ℕ → ℕ → List Record) (p : ℕ) → ((q s : ℕ) → (q ≡ p → ⊥) → S q s ≡ R q s) → ((q s : ℕ) (x : Record) → In x (R q s) → x.second ≡ p → ⊥)
    → (d q y : ℕ) → (q ≡ p → ⊥) → gives S q d y ≡ gives R q d y
unfolding gives
gives_frame R S p same others zero q y n = refl
gives_frame R S p same others (suc s) q y n =
    ap₂ (λ a b. a ++ b)
    (gives_frame R S p same others s q y n)
    (ap (flat_map (λ x. gives S x.second s (applied x.phi y))) (same q s n)
    ∙ flat_map_agree (λ x. gives S x.second s (applied x.phi y)) (λ x. gives R x.second s (applied x.phi y)) (R q s)
    (λ x m. gives_frame R S p same others s x.second (applied x.phi y) (others q s x m)))

-- What a leader gives at depth d depends only on the records of stages below d.
pub gives_below : (R S : ℕ → ℕ → List Record) (d : ℕ) → ((q s : ℕ) → s < d → S q s ≡ R q s) → (q y : ℕ) → gives S q d y ≡ gives R q d y
unfolding gives
gives_below R S zero same q y = refl
gives_below R S (suc s) same q y =
    ap₂ (λ a b. a ++ b)
    (gives_below R S s (λ i t l. same i t (omega arith)) q y)
    (ap (flat_map (λ x. gives S x.second s (applied x.phi y))) (same q s (omega arith))
    ∙ flat_map_agree (λ x. gives S x.second s (applied x.phi y)) (λ x. gives R x.second s (applied x.phi y)) (R q s)
    (λ x m. gives_below R S s (λ i t l. same i t (omega arith)) x.second (applied x.phi y)))

-- A leader without records at stage s gives the same at depth s + 1 as at depth s.
pub gives_further : (R : ℕ → ℕ → List Record) (p s y : ℕ) → R p s ≡ [] → gives R p (suc s) y ≡ gives R p s y
unfolding gives
gives_further R p s y e = ap (λ xs. gives R p s y ++ flat_map (λ x. gives R x.second s (applied x.phi y)) xs) e ∙ append-nil (gives R p s y)

-- If a leader gets one more record at the last stage, it also gives what the second of that record gives.
pub gives_more : (R S : ℕ → ℕ → List Record) (p s y : ℕ) (z : Record) → ((q t : ℕ) → t < s → S q t ≡ R q t) → S p s ≡ R p s ++ z ∷ []
    → gives S p (suc s) y ≡ gives R p (suc s) y ++ gives R z.second s (applied z.phi y)
unfolding gives
gives_more R S p s y z same e =
    ap₂ (λ a b. a ++ b)
    (gives_below R S s same p y)
    (ap (flat_map (λ x. gives S x.second s (applied x.phi y))) e
    ∙ flat_map_agree (λ x. gives S x.second s (applied x.phi y)) (λ x. gives R x.second s (applied x.phi y)) (R p s ++ z ∷ [])
    (λ x m. gives_below R S s same x.second (applied x.phi y))
    ∙ flat_map-append (λ x. gives R x.second s (applied x.phi y)) (R p s) (z ∷ [])
    ∙ ap (λ a. flat_map (λ x. gives R x.second s (applied x.phi y)) (R p s) ++ a) (append-nil (gives R z.second s (applied z.phi y))))
    ∙ sym (append_assoc (gives R p s y) (flat_map (λ x. gives R x.second s (applied x.phi y)) (R p s)) (gives R z.second s (applied z.phi y)))

In-flat_map : {X A : Type 0} (f : X → List A) (a : A) (x : X) (xs : List X) → In x xs → In a (f x) → In a (flat_map f xs)
In-flat_map f a x [] m n = elim m [ ]
In-flat_map f a x (y ∷ xs) (inl e) n = In-append_left a (f y) (flat_map f xs) (subst (λ z. In a (f z)) e n)
In-flat_map f a x (y ∷ xs) (inr m) n = In-append_right a (f y) (flat_map f xs) (In-flat_map f a x xs m n)

In-flat_map_from : {X A : Type 0} (f : X → List A) (a : A) (xs : List X) → In a (flat_map f xs) → (x : X) × In x xs × In a (f x)
In-flat_map_from f a [] m = elim m [ ]
In-flat_map_from {X} f a (y ∷ xs) m = go (In-flat_map_from f a xs) (In-append a (f y) (flat_map f xs) m)
  where
    go : (In a (flat_map f xs) → (x : X) × In x xs × In a (f x)) → In a (f y) ⊎ In a (flat_map f xs) → (x : X) × In x (y ∷ xs) × In a (f x)
    go rec (inl h) = (y, inl refl, h)
    go rec (inr h) = let r = rec h in (r.0, inr r.1, r.2)

-- What a leader gives at a depth, it also gives one stage further.
pub gives_leader : (R : ℕ → ℕ → List Record) (p s y : ℕ) (m : ℕ × ℕ) → In m (gives R p s y) → In m (gives R p (suc s) y)
unfolding gives
gives_leader R p s y m i = In-append_left m (gives R p s y) _ i

-- A leader gives what the second of each of its records at the last stage gives.
pub gives_second : (R : ℕ → ℕ → List Record) (p s y : ℕ) (z : Record) (m : ℕ × ℕ) → In z (R p s) → In m (gives R z.second s (applied z.phi y))
    → In m (gives R p (suc s) y)
unfolding gives
gives_second R p s y z m i h = In-append_right m (gives R p s y) _ (In-flat_map (λ x. gives R x.second s (applied x.phi y)) m z (R p s) i h)

pub gives_now : (R : ℕ → ℕ → List Record) (p y : ℕ) → In (p, y) (gives R p 0 y)
unfolding gives
gives_now R p y = inl refl

-- If no record has p as its second, p gets nothing from another leader.
pub gives_unnamed : (R : ℕ → ℕ → List Record) (p : ℕ) → ((q s : ℕ) (x : Record) → In x (R q s) → x.second ≡ p → ⊥) → (d q y : ℕ) (m : ℕ × ℕ) → (q ≡ p → ⊥)
    → In m (gives R q d y) → m.0 ≡ p → ⊥
unfolding gives
gives_unnamed R p others zero q y m n (inl e) same = n (sym (ap (λ (a : ℕ × ℕ). a.0) e) ∙ same)
gives_unnamed R p others zero q y m n (inr i) same = i
gives_unnamed R p others (suc s) q y m n i same = elim (In-append m (gives R q s y) (flat_map (λ x. gives R x.second s (applied x.phi y)) (R q s)) i) [
  | inl h ↦ gives_unnamed R p others s q y m n h same
  | inr h ↦ (let r = In-flat_map_from (λ x. gives R x.second s (applied x.phi y)) m (R q s) h in
      gives_unnamed R p others s r.0.second (applied r.0.phi y) m (others q s r.0 r.1) r.2 same)
]

-- Processors find the same if each of them has the same function.
pub finds_agree : (own now : ℕ → Phi) (js : List ℕ) → ((j : ℕ) → In j js → now j ≡ own j) → (y : ℕ) → finds now js y ≡ finds own js y
unfolding finds
finds_agree own now [] h y = refl
finds_agree own now (j ∷ js) h y = ap (λ z. (j, y) ∷ finds now js (applied z y)) (h j (inl refl))
    ∙ ap (λ z. (j, y) ∷ z) (finds_agree own now js (λ i m. h i (inr m)) (applied (own j) y))

-- Processors leave the same word if each of them has the same function.
pub leaves_agree : (own now : ℕ → Phi) (js : List ℕ) → ((j : ℕ) → In j js → now j ≡ own j) → (y : ℕ) → leaves now js y ≡ leaves own js y
unfolding leaves
leaves_agree own now [] h y = refl
leaves_agree own now (j ∷ js) h y = ap (λ z. leaves now js (applied z y)) (h j (inl refl)) ∙ leaves_agree own now js (λ i m. h i (inr m)) (applied (own j) y)

-- A single processor leaves what its function makes of the word.
pub leaves_one : (own : ℕ → Phi) (p y : ℕ) → leaves own (p ∷ []) y ≡ applied (own p) y
unfolding leaves
leaves_one own p y = refl

-- A single processor finds the word as it is.
pub finds_one : (own : ℕ → Phi) (p y : ℕ) → finds own (p ∷ []) y ≡ (p, y) ∷ []
unfolding finds
finds_one own p y = refl

-- A reply at depth 0 gives its value to its leader alone.
pub gives_first : (R : ℕ → ℕ → List Record) (p y : ℕ) → gives R p 0 y ≡ (p, y) ∷ []
unfolding gives
gives_first R p y = refl

-- A leader gets the value of the reply itself.
pub gives_leads : (R : ℕ → ℕ → List Record) (p d y : ℕ) → In (p, y) (gives R p d y)
unfolding gives
gives_leads R p zero y = inl refl
gives_leads R p (suc s) y = In-append_left (p, y) (gives R p s y) _ (gives_leads R p s y)

pub In-finds : (own : ℕ → Phi) (js : List ℕ) (y : ℕ) (m : ℕ × ℕ) → In m (finds own js y) → In m.0 js
unfolding finds
In-finds own [] y m i = i
In-finds own (j ∷ js) y m (inl e) = inl (ap (λ (x : ℕ × ℕ). x.0) e)
In-finds own (j ∷ js) y m (inr i) = inr (In-finds own js (applied (own j) y) m i)
