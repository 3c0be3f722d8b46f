-- Groups in a list, and how an outcome is entered.
use Rattle.std.proofs.Common.{◌≡◌, ℕ, zero, suc, ◌+◌, ◌<◌, ◌≤◌, List, [], ◌∷◌, ◌++◌, length, ◌⊎◌, inl, inr, refl, sym, ap, ap₂, ◌∙◌, subst, arith}
use Rattle.std.specs.Prelude.{map, slice_index_or, slice_set}
use Rattle.std.proofs.lemmas.Bool.{cases_eq}
use Rattle.std.proofs.lemmas.List.{length-append, append-nil, length-map, length-set, get_or-set_same, get_or-set_other}
use mathlib.Core.Path.{fun_ext}
use Rattle.arrayvec.specs.ArrayVec.{ArrayVec}
use Rattle.flat_machine.specs.declared.poke.Entry.{Entry}
use Rattle.flat_machine.specs.declared.poke.Entry.TheVariants as entry
use Rattle.flat_machine.specs.declared.poke.Poke.{Poke}
use Rattle.messages.specs.Places.{put}
use Rattle.machine_theory.specs.network_theory.Meaning.{joined}
use Rattle.messages.proofs.Lemmas.{put_other, put_same}
use Rattle.machine_theory.proofs.Lemmas.network_theory.{joined_first}
use Rattle.machine_theory.specs.Theory as theory
use Rattle.machine_steps.specs.Ordering.{no_group, group_in, count_in, IsEntered}

-- ---- a list of groups

-- If one group of the list is replaced, only that group changes.
pub group_set : (gs : List (ArrayVec ℕ)) (p : ℕ) (v : ArrayVec ℕ) → p < length gs → group_in (slice_set gs p v) ≡ put (group_in gs) p v.items
group_set gs p v within = fun_ext at
  where
    at : (q : ℕ) → group_in (slice_set gs p v) q ≡ put (group_in gs) p v.items q
    at q = elim (cases_eq q p) [
      | inl e ↦ ap (group_in (slice_set gs p v)) e ∙ ap (λ (g : ArrayVec ℕ). g.items) (get_or-set_same gs p v no_group within)
          ∙ sym (ap (put (group_in gs) p v.items) e ∙ put_same (group_in gs) p v.items)
      | inr n ↦ ap (λ (g : ArrayVec ℕ). g.items) (get_or-set_other gs p q v no_group n) ∙ sym (put_other (group_in gs) p v.items q n)
    ]

pub count_set : (gs : List (ArrayVec ℕ)) (p : ℕ) (v : ArrayVec ℕ) → p < length gs →
    count_in (slice_set gs p v) + length (group_in gs p) ≡ count_in gs + length v.items
count_set [] p v within = absurd (omega arith)
count_set (g ∷ gs) zero v within = omega arith
count_set (g ∷ gs) (suc p) v within = let rest = count_set gs p v (omega arith) in omega (arith, rest)

-- The group read at a place is the one there.
pub group_at : (gs : List (ArrayVec ℕ)) (p : ℕ) (v : ArrayVec ℕ) → p < length gs → v ≡ slice_index_or gs p v → v.items ≡ group_in gs p
group_at [] p v within e = absurd (omega arith)
group_at (g ∷ gs) zero v within e = ap (λ (x : ArrayVec ℕ). x.items) e
group_at (g ∷ gs) (suc p) v within e = group_at gs p v (omega arith) e

-- No group has more processors than wait in all groups.
pub group_counts : (gs : List (ArrayVec ℕ)) (p : ℕ) → length (group_in gs p) ≤ count_in gs
group_counts [] p = omega arith
group_counts (g ∷ gs) zero = omega arith
group_counts (g ∷ gs) (suc p) = let rest = group_counts gs p in omega (arith, rest)

-- If all groups are empty, they still are with an empty one appended.
pub group_more : (gs : List (ArrayVec ℕ)) (v : ArrayVec ℕ) → v.items ≡ [] → ((p : ℕ) → group_in gs p ≡ []) → (p : ℕ) → group_in (gs ++ v ∷ []) p ≡ []
group_more [] v none all zero = none
group_more [] v none all (suc p) = refl
group_more (g ∷ gs) v none all zero = all zero
group_more (g ∷ gs) v none all (suc p) = group_more gs v none (λ q. all (suc q)) p

-- An empty group at the end of the list does not change how many wait.
pub count_more : (gs : List (ArrayVec ℕ)) (v : ArrayVec ℕ) → v.items ≡ [] → count_in (gs ++ v ∷ []) ≡ count_in gs
count_more [] v none = ap (λ (l : List ℕ). length l + 0) none
count_more (g ∷ gs) v none = ap (λ (n : ℕ). length g.items + n) (count_more gs v none)

-- ---- entered

module _ (gs : List (ArrayVec ℕ)) (es : List Entry) where
  -- A stall changes neither the groups nor the order.
  pub enters_nothing : IsEntered gs es theory.Stalled gs es
  enters_nothing = record { places = refl; group = refl; order = sym (append-nil es); count = omega arith }

  -- An advance of a processor puts its entry at the end of the order.
  pub enters_one : (p : ℕ) → IsEntered gs es (theory.Advanced p) gs (es ++ entry.Processor p ∷ [])
  enters_one p = record { places = refl; group = refl; order = refl; count = (let n = length-append es (entry.Processor p ∷ []) in omega (arith, n)) }

  -- A poke is put at the end of the order.
  pub enters_poke : (q : Poke) → IsEntered gs es (theory.Poked q) gs (es ++ entry.Poke q ∷ [])
  enters_poke q = record { places = refl; group = refl; order = refl; count = (let n = length-append es (entry.Poke q ∷ []) in omega (arith, n)) }

  -- After an issue the processor alone waits in its group, and the order is the same.
  pub enters_issue : (p : ℕ) (v : ArrayVec ℕ) → p < length gs → v.items ≡ p ∷ [] → IsEntered gs es (theory.Issued p) (slice_set gs p v) es
  enters_issue p v within is = record {
    places = length-set gs p v;
    group = group_set gs p v within ∙ ap (put (group_in gs) p) is;
    order = sym (append-nil es);
    count = (let n = count_set gs p v within in let one : length v.items ≡ 1 = ap length is in omega (arith, n, one));
  }

  -- A served leader's group is put at the end of the order, and waits no more.
  pub enters_served : (p : ℕ) (v : ArrayVec ℕ) (es' : List Entry) → p < length gs → v.items ≡ [] → es' ≡ es ++ map entry.Processor (group_in gs p) →
      IsEntered gs es (theory.Served p) (slice_set gs p v) es'
  enters_served p v es' within none is = record {
    places = length-set gs p v;
    group = group_set gs p v within ∙ ap (put (group_in gs) p) none;
    order = is;
    count =
        (let n = count_set gs p v within in
        let zero_now : length v.items ≡ 0 = ap length none in
        let more : length es' ≡ length es + length (group_in gs p) = ap length is ∙ length-append es (map entry.Processor (group_in gs p))
        ∙ ap (λ (n : ℕ). length es + n) (length-map (group_in gs p) entry.Processor) in
        omega (arith, n, zero_now, more));
  }

  -- What was put at a place is gone after the next put there.
  put_put : (f : ℕ → List ℕ) (p : ℕ) (x y z : List ℕ) → put (put f p x) p z ≡ put (put f p y) p z
  put_put f p x y z = fun_ext (λ q. elim (cases_eq q p) [
    | inl e ↦ ap (put (put f p x) p z) e ∙ put_same (put f p x) p z ∙ sym (ap (put (put f p y) p z) e ∙ put_same (put f p y) p z)
    | inr n ↦ put_other (put f p x) p z q n ∙ put_other f p x q n ∙ sym (put_other (put f p y) p z q n ∙ put_other f p y q n)
  ])

  -- After a combination, the second leader's group waits at the end of the first's, if no group has more than 64.
  pub enters_combined : (p q : ℕ) (v w : ArrayVec ℕ) → p < length gs → q < length gs →
      (length (group_in gs p) + length (group_in gs q) ≤ 64 → v.items ≡ group_in gs p ++ group_in gs q) → w.items ≡ [] →
      ((i : ℕ) → length (joined (group_in gs) p q i) ≤ 64)
      → IsEntered gs es (theory.Combined p q) (slice_set (slice_set gs p v) q w) es
  unfolding joined
  enters_combined p q v w p_in q_in both none few = by (cases_eq p q)
    where
      gs1 : List (ArrayVec ℕ)
      gs1 = slice_set gs p v

      places : length (slice_set gs1 q w) ≡ length gs
      places = length-set gs1 q w ∙ length-set gs p v

      q_there : q < length gs1
      q_there = subst (λ n. q < n) (sym (length-set gs p v)) q_in

      now : group_in (slice_set gs1 q w) ≡ put (put (group_in gs) p v.items) q []
      now = group_set gs1 q w q_there ∙ ap₂ (λ (f : ℕ → List ℕ) (xs : List ℕ). put f q xs) (group_set gs p v p_in) none

      n1 : count_in gs1 + length (group_in gs p) ≡ count_in gs + length v.items
      n1 = count_set gs p v p_in

      n2 : count_in (slice_set gs1 q w) + length (group_in gs1 q) ≡ count_in gs1 + 0
      n2 = count_set gs1 q w q_there ∙ ap (λ (l : List ℕ). count_in gs1 + length l) none

      by : (p ≡ q) ⊎ (p ≡ q → ⊥) → IsEntered gs es (theory.Combined p q) (slice_set gs1 q w) es
      by (inl e) = record {
        places = places;
        group = now ∙ ap (λ (i : ℕ). put (put (group_in gs) p v.items) i []) (sym e) ∙ put_put (group_in gs) p v.items (group_in gs p ++ group_in gs q) []
            ∙ ap (λ (i : ℕ). put (put (group_in gs) p (group_in gs p ++ group_in gs q)) i []) e;
        order = sym (append-nil es);
        count =
            (let there : group_in gs1 q ≡ v.items = ap (λ (f : ℕ → List ℕ). f q) (group_set gs p v p_in) ∙ ap (put (group_in gs) p v.items) (sym e)
            ∙ put_same (group_in gs) p v.items in
            let l : length (group_in gs1 q) ≡ length v.items = ap length there in
            let a = n1 in
            let b = n2 in
            omega (arith, a, b, l));
      }
      by (inr n) =
          let fits : length (group_in gs p) + length (group_in gs q) ≤ 64
          = subst (λ m. m ≤ 64) (ap length (joined_first (group_in gs) p q n) ∙ length-append (group_in gs p) (group_in gs q)) (few p) in
          let is = both fits in
          record {
            places = places;
            group = now ∙ ap (λ (xs : List ℕ). put (put (group_in gs) p xs) q []) is;
            order = sym (append-nil es);
            count =
                (let there : group_in gs1 q ≡ group_in gs q = ap (λ (f : ℕ → List ℕ). f q) (group_set gs p v p_in)
                ∙ put_other (group_in gs) p v.items q (λ e. n (sym e)) in
                let l : length (group_in gs1 q) ≡ length (group_in gs q) = ap length there in
                let m : length v.items ≡ length (group_in gs p) + length (group_in gs q) = ap length is ∙ length-append (group_in gs p) (group_in gs q) in
                let a = n1 in
                let b = n2 in
                omega (arith, a, b, l, m));
          }
