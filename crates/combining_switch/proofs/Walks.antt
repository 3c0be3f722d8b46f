-- Walks along a table: what a walk takes from it, and how a write at its end makes it longer. Other writes do not
-- change it.
use Rattle.std.proofs.Common.{◌≡◌, ℕ, zero, suc, ◌<◌, List, [], ◌∷◌, ◌++◌, length, get_or, set, Some, inl}
use Rattle.std.proofs.Common.{inr, refl, sym, ap, ◌∙◌, subst, arith, get_or-set_same, get_or-set_other}
use Rattle.std.specs.Prelude.{slice_get}
use Rattle.messages.specs.Places.{In, Distinct}
use Rattle.combining_switch.specs.Walks.{last_or, walk}
use Rattle.combining_switch.proofs.Lists.{last_or-In}

pub length-walk : (next : List ℕ) (p n : ℕ) → length (walk next p n) ≡ n
unfolding walk
length-walk next p zero = refl
length-walk next p (suc n) = ap suc (length-walk next (get_or next p 0) n)

-- A write outside a walk does not change it.
pub walk_outside : (next : List ℕ) (a v p n : ℕ) → (In a (walk next p n) → ⊥) → walk (set next a v) p n ≡ walk next p n
unfolding walk
walk_outside next a v p zero out = refl
walk_outside next a v p (suc n) out =
    let same : get_or (set next a v) p 0 ≡ get_or next p 0 = get_or-set_other next a p v 0 (λ e. out (inl (sym e))) in
    ap (λ r. p ∷ walk (set next a v) r n) same ∙ ap (λ ps. p ∷ ps) (walk_outside next a v (get_or next p 0) n (λ m. out (inr m)))

-- A write at the last number of a walk makes the walk longer by one.
pub walk_longer : (next : List ℕ) (p f n : ℕ) → ((q : ℕ) → In q (walk next f (suc n)) → q < length next) → Distinct (walk next f (suc n)) →
    walk (set next (last_or f (walk next (get_or next f 0) n)) p) f (suc (suc n)) ≡ walk next f (suc n) ++ p ∷ []
unfolding walk
walk_longer next p f zero below once = ap (λ r. f ∷ r ∷ []) (get_or-set_same next f p 0 (below f (inl refl)))
walk_longer next p f (suc m) below once =
    let g : ℕ = get_or next f 0 in
    let l : ℕ = last_or g (walk next (get_or next g 0) m) in
    let inside : In l (walk next g (suc m)) = last_or-In g (walk next (get_or next g 0) m) in
    let same : get_or (set next l p) f 0 ≡ g =
    get_or-set_other next l f p 0 (λ e. once.0 (subst (λ x. In x (walk next g (suc m))) (sym e) inside)) in
    ap (λ r. f ∷ walk (set next l p) r (suc (suc m))) same
    ∙ ap (λ ps. f ∷ ps) (walk_longer next p g m (λ q i. below q (inr i)) once.1)

-- The number after another one of a walk is the one that the table has for it.
pub walk_after : (next : List ℕ) (f n i p : ℕ) → slice_get (walk next f n) i ≡ Some p → suc i < n →
    slice_get (walk next f n) (suc i) ≡ Some (get_or next p 0)
unfolding walk
walk_after next f zero i p at within = absurd (omega arith)
walk_after next f (suc zero) i p at within = absurd (omega arith)
walk_after next f (suc (suc n)) zero p at within =
    let same : f ≡ p = cc in ap (λ x. Some (get_or next x 0)) same
walk_after next f (suc (suc n)) (suc i) p at within = walk_after next (get_or next f 0) (suc n) i p at (omega arith)
