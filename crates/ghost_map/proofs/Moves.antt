-- Each step of the table keeps the rule that the authority and the fragments agree.
use Rattle.std.proofs.Common.{◌≡◌, ◌≢◌, ◌⊎◌, ℕ, zero, suc, ◌<◌, List, [], ◌∷◌, ◌++◌, length}
use Rattle.std.proofs.Common.{set, Some, Bool, true, false, true≢false, refl, sym, ap, ◌∙◌}
use Rattle.std.proofs.Common.{subst, ⊎_elim, arith, eqb, cond, eq-eqb, ne_eqb, inl, inr}
use Rattle.std.specs.Prelude.{slice_get, slice_set}
use mathlib.Core.Option.{some, some-ne-none, some-injective}
use lib.ListN.{get_elem?}
use Rattle.atomic_table.specs.Table.{State, Me, Allows, Splits, Joins, keeps}
use Rattle.atomic_table.proofs.Lists.{at_set}
use Rattle.ghost_map.specs.declared.rule.View.{View}
use Rattle.ghost_map.specs.Rows.{authority, fragment, nobody, let_go, hold, taken, Fits, Kept, Allocated, Written}

off : false ≡ true → ⊥
off e = true≢false (sym e)

-- the owners of rows, with the seat n for the row k
moved : (ℕ → ℕ) → ℕ → ℕ → ℕ → ℕ
moved f k n j = cond (eqb j k) n (f j)

moved_here : (f : ℕ → ℕ) (k n : ℕ) → moved f k n k ≡ n
unfolding moved
moved_here f k n = ap (λ (b : Bool). cond b n (f k)) (eq-eqb k k refl)

moved_else : (f : ℕ → ℕ) (k n j : ℕ) → j ≢ k → moved f k n j ≡ f j
unfolding moved
moved_else f k n j ne = ap (λ (b : Bool). cond b n (f j)) (ne_eqb j k ne)

module _ {R : Type 0} where
  get_in : (xs : List R) (k : ℕ) (r : R) → slice_get xs k ≡ Some r → k < length xs
  get_in [] k r e = absurd (cc)
  get_in (x ∷ xs) zero r e = omega arith
  get_in (x ∷ xs) (suc k) r e = let h = get_in xs k r e in omega arith

  get_front : (xs ys : List R) (k : ℕ) (r : R) → slice_get xs k ≡ Some r → slice_get (xs ++ ys) k ≡ Some r
  get_front [] ys k r e = absurd (cc)
  get_front (x ∷ xs) ys zero r e = e
  get_front (x ∷ xs) ys (suc k) r e = get_front xs ys k r e

  get_last : (xs : List R) (r : R) → slice_get (xs ++ r ∷ []) (length xs) ≡ Some r
  get_last [] r = refl
  get_last (x ∷ xs) r = get_last xs r

  get_set : (xs : List R) (k : ℕ) (r s : R) → slice_get xs k ≡ Some s → slice_get (slice_set xs k r) k ≡ Some r
  get_set [] k r s e = absurd (cc)
  get_set (x ∷ xs) zero r s e = refl
  get_set (x ∷ xs) (suc k) r s e = get_set xs k r s e

  get_set_else : (xs : List R) (k j : ℕ) (r s : R) → j ≢ k → slice_get xs j ≡ Some s → slice_get (slice_set xs k r) j ≡ Some s
  get_set_else [] k j r s ne e = e
  get_set_else (x ∷ xs) zero zero r s ne e = absurd (ne refl)
  get_set_else (x ∷ xs) zero (suc j) r s ne e = e
  get_set_else (x ∷ xs) (suc k) zero r s ne e = e
  get_set_else (x ∷ xs) (suc k) (suc j) r s ne e = get_set_else xs k j r s (λ h. ne (ap suc h)) e

  abbrev All : List R → ℕ → (ℕ → ℕ) → List (View R) → Type 0
  All all authority_seat owner views = (by : ℕ) (v : View R) → get_elem? views by ≡ some v → Fits all authority_seat owner by v

  -- If one view changes and fits, and all others fit, all views fit after the change.
  fits_set : (all : List R) (authority_seat : ℕ) (owner : ℕ → ℕ) (views : List (View R)) (at : ℕ) (w : View R)
      → ((j : ℕ) (u : View R) → j ≢ at → get_elem? views j ≡ some u → Fits all authority_seat owner j u)
      → Fits all authority_seat owner at w → All all authority_seat owner (set views at w)
  fits_set all authority_seat owner views at w others mine j u e =
      ⊎_elim
      (λ (x : (j ≡ at) × (w ≡ u)). subst (λ (y : ℕ × View R). Fits all authority_seat owner y.0 y.1) (λ i. (sym x.0 i, x.1 i)) mine)
      (λ (x : (j ≢ at) × (get_elem? views j ≡ some u)). others j u x.0 x.1)
      (at_set views at j w u e)

  none_held : (all : List R) (authority_seat : ℕ) (owner : ℕ → ℕ) (at : ℕ) → Fits all authority_seat owner at nobody
  none_held all authority_seat owner at = ((λ k. absurd (off k)), (λ who row h. absurd (cc)))

  -- At first the rule holds: there are no rows, and one authority that knows them and has nothing in hand.
  pub begins : Kept {R = R} (authority [] [] ∷ [])
  begins = ([], 0, (λ k. k), one)
    where
      one : (by : ℕ) (v : View R) → get_elem? (authority [] [] ∷ []) by ≡ some v → Fits [] 0 (λ k. k) by v
      one zero v e = subst (Fits [] 0 (λ k. k) 0) (some-injective _ _ e) ((λ _. (refl, refl)), (λ who row h. absurd (cc)))
      one (suc by) v e = absurd (some-ne-none v (sym e))

  -- An element of a list with one more is one of the list, or the last.
  at_end : (l : List (View R)) (a b : View R) (j : ℕ) → get_elem? (l ++ a ∷ []) j ≡ some b
      → (get_elem? l j ≡ some b) ⊎ ((j ≡ length l) × (a ≡ b))
  at_end [] a b zero e = inr (refl, some-injective a b e)
  at_end [] a b (suc j) e = absurd (some-ne-none b (sym e))
  at_end (x ∷ xs) a b zero e = inl e
  at_end (x ∷ xs) a b (suc j) e =
      ⊎_elim (λ t. inl t) (λ (t : (j ≡ length xs) × (a ≡ b)). inr (omega arith, t.1)) (at_end xs a b j e)

  abbrev Rule : State (Unit {0}) (View R) → Type 0
  Rule s = Kept s.views

  pub allocates : (all : List R) (row : R) (slots id i : ℕ)
      → Allows Rule slots id (authority all [], []) i (λ n. n) (λ n w. Allocated row (authority all [], []) w)
  allocates all row slots id i s h len at fits =
      let mine = (h.3 id (authority all []) at).0 refl in
      let w : View R = authority (all ++ row ∷ []) ((length all, row) ∷ []) in
      let more = h.0 ++ row ∷ [] in
      let owner = moved h.2 (length all) id in (
        w,
        keeps,
        tt,
        (
          more,
          h.1,
          owner,
          fits_set more h.1 owner s.views id w
              (λ j u apart e.
              let f = h.3 j u e in (
                (λ k. absurd (apart ((f.0 k).0 ∙ sym mine.0))),
                (λ who r hh.
                    let g = f.1 who r hh in
                    let less = get_in h.0 who r g.1 in
                    let same = ap length mine.1 in
                    let ne : who ≢ length all = λ q. omega arith in
                    (g.0 ∙ sym (moved_else h.2 (length all) id who ne), get_front h.0 (row ∷ []) who r g.1)),
              )) (
                (λ _. (mine.0, ap (λ l. l ++ row ∷ []) mine.1)),
                (λ who r hh.
                    let e : (length all, row) ≡ (who, r) = cc (hh) in
                    subst (λ (p : ℕ × R). (id ≡ owner p.0) × (slice_get more p.0 ≡ Some p.1)) e (
                      sym (moved_here h.2 (length all) id),
                      subst (λ (l : List R). slice_get (l ++ row ∷ []) (length all) ≡ Some row) mine.1 (get_last all row),
                    )),
              ),
        ),
        refl,
      )

  -- With a row's fragment in hand, the authority may write that row.
  pub writes : (all : List R) (who : ℕ) (row new : R) (slots id i : ℕ)
      → Allows Rule slots id (authority all ((who, row) ∷ []), []) i (λ n. n)
      (λ n w. Written new (authority all ((who, row) ∷ []), []) w)
  writes all who row new slots id i s h len at fits =
      let f0 = h.3 id (authority all ((who, row) ∷ [])) at in
      let mine = f0.0 refl in
      let own = f0.1 who row refl in
      let w : View R = authority (slice_set all who new) ((who, new) ∷ []) in
      let now = slice_set h.0 who new in (
        w,
        keeps,
        tt,
        (
          now,
          h.1,
          h.2,
          fits_set now h.1 h.2 s.views id w
              (λ j u apart e.
              let f = h.3 j u e in (
                (λ k. absurd (apart ((f.0 k).0 ∙ sym mine.0))),
                (λ who' r hh.
                    let g = f.1 who' r hh in
                    let ne : who' ≢ who = λ q. apart (g.0 ∙ ap h.2 q ∙ sym own.0) in
                    (g.0, get_set_else h.0 who who' new r ne g.1)),
              )) (
                (λ _. (mine.0, ap (λ l. slice_set l who new) mine.1)),
                (λ who' r hh.
                    let e : (who, new) ≡ (who', r) = cc (hh) in
                    subst (λ (p : ℕ × R). (id ≡ h.2 p.0) × (slice_get now p.0 ≡ Some p.1)) e (own.0, get_set h.0 who new row own.1)),
              ),
        ),
        (λ who' r hh.
            let e : (who, row) ≡ (who', r) = cc (hh) in
            let Now : ℕ × R → Type 0 = λ p.
            (slice_get all p.0 ≡ Some p.1) × (◌≡◌ {A = Me (Unit {0}) (View R)} (w, []) (authority (slice_set all p.0 new) ((p.0, new) ∷ []), [])) in
            subst Now e
            (subst (λ (l : List R). slice_get l who ≡ Some row) (sym mine.1) own.1, refl)),
      )

  pub frees : (all : List R) (who : ℕ) (row : R) (id : ℕ)
      → Splits Rule id (authority all ((who, row) ∷ [])) (let_go (authority all ((who, row) ∷ []))) (hold (authority all ((who, row) ∷ [])))
  frees all who row id s h at =
      let f0 = h.3 id (authority all ((who, row) ∷ [])) at in
      let mine = f0.0 refl in
      let own = f0.1 who row refl in
      let left = let_go (authority all ((who, row) ∷ [])) in
      let right = hold (authority all ((who, row) ∷ [])) in
      let n = length (set s.views id left) in
      let owner = moved h.2 who n in (
        h.0,
        h.1,
        owner,
        λ j u e. ⊎_elim
            (λ (was : get_elem? (set s.views id left) j ≡ some u).
            fits_set h.0 h.1 owner s.views id left
            (λ j u apart e.
            let f = h.3 j u e in (
              f.0,
              (λ who' r hh.
                  let g = f.1 who' r hh in
                  let ne : who' ≢ who = λ q. apart (g.0 ∙ ap h.2 q ∙ sym own.0) in
                  (g.0 ∙ sym (moved_else h.2 who n who' ne), g.1)),
            ))
            ((λ _. mine), (λ who' r hh. absurd (cc)))
            j u was)
            (λ (new : (j ≡ n) × (right ≡ u)).
            subst (λ (y : ℕ × View R). Fits h.0 h.1 owner y.0 y.1) (λ i. (sym new.0 i, new.1 i)) (
              (λ k. absurd (off k)),
              (λ who' r hh.
                  let e : (who, row) ≡ (who', r) = cc (hh) in
                  subst (λ (p : ℕ × R). (n ≡ owner p.0) × (slice_get h.0 p.0 ≡ Some p.1)) e (sym (moved_here h.2 who n), own.1)),
            ))
            (at_end (set s.views id left) right u j e),
      )

  -- An authority with nothing in hand may take over the one fragment of another seat, which then has none.
  pub takes : (all : List R) (who : ℕ) (row : R) (id other : ℕ)
      → Joins Rule id (authority all []) other (fragment ((who, row) ∷ [])) (taken (authority all []) (fragment ((who, row) ∷ []))) nobody
  takes all who row id other s h at apart there =
      let both = taken (authority all []) (fragment ((who, row) ∷ [])) in
      let mine = (h.3 id (authority all []) at).0 refl in
      let held : View R = fragment ((who, row) ∷ []) in
      let theirs = ⊎_elim
      (λ (t : (other ≡ id) × (both ≡ held)). absurd (apart t.0))
      (λ (t : (other ≢ id) × (get_elem? s.views other ≡ some held)). (h.3 other held t.1).1 who row refl)
      (at_set s.views id other both held there) in
      let owner = moved h.2 who id in (
        h.0,
        h.1,
        owner,
        fits_set h.0 h.1 owner (set s.views id both) other nobody
            (λ j u not_other e.
            ⊎_elim
            (λ (x : (j ≡ id) × (both ≡ u)). subst (λ (y : ℕ × View R). Fits h.0 h.1 owner y.0 y.1) (λ i. (sym x.0 i, x.1 i)) (
              (λ _. mine),
              (λ who' r hh.
                  let e : (who, row) ≡ (who', r) = cc (hh) in
                  subst (λ (p : ℕ × R). (id ≡ owner p.0) × (slice_get h.0 p.0 ≡ Some p.1)) e (sym (moved_here h.2 who id), theirs.1)),
            ))
            (λ (x : (j ≢ id) × (get_elem? s.views j ≡ some u)).
            let f = h.3 j u x.1 in (
              f.0,
              (λ who' r hh.
                  let g = f.1 who' r hh in
                  let ne : who' ≢ who = λ q. not_other (g.0 ∙ ap h.2 q ∙ sym theirs.0) in
                  (g.0 ∙ sym (moved_else h.2 who id who' ne), g.1)),
            ))
            (at_set s.views id j both u e))
            (none_held h.0 h.1 owner other),
      )

  -- A seat that is known to be the authority's, with nothing in hand, may add a row.
  pub hires_as : (me : Me (Unit {0}) (View R)) (all : List R) (row : R) (slots id i : ℕ)
      → me ≡ (authority all [], []) → Allows Rule slots id me i (λ n. n) (λ n w. Allocated row me w)
  hires_as me all row slots id i is =
      subst (λ (m : Me (Unit {0}) (View R)). Allows Rule slots id m i (λ n. n) (λ n w. Allocated row m w)) (sym is) (allocates all row slots id i)

  -- A seat that is known to be the authority's, with a row's fragment in hand, may write that row.
  pub writes_as : (me : Me (Unit {0}) (View R)) (all : List R) (who : ℕ) (row new : R) (slots id i : ℕ)
      → me ≡ (authority all ((who, row) ∷ []), []) → Allows Rule slots id me i (λ n. n) (λ n w. Written new me w)
  writes_as me all who row new slots id i is =
      subst (λ (m : Me (Unit {0}) (View R)). Allows Rule slots id m i (λ n. n) (λ n w. Written new m w)) (sym is) (writes all who row new slots id i)

  -- A view known to be the authority's, with a fragment in hand, may be split into the authority and the fragment.
  pub frees_as : (v : View R) (all : List R) (who : ℕ) (row : R) (id : ℕ)
      → v ≡ authority all ((who, row) ∷ []) → Splits Rule id v (let_go v) (hold v)
  frees_as v all who row id is = subst (λ (v : View R). Splits Rule id v (let_go v) (hold v)) (sym is) (frees all who row id)

  -- A view known to be the authority's, with nothing in hand, may take over one known to be a fragment.
  pub takes_as : (v w : View R) (all : List R) (who : ℕ) (row : R) (id other : ℕ)
      → v ≡ authority all [] → w ≡ fragment ((who, row) ∷ []) → Joins Rule id v other w (taken v w) nobody
  takes_as v w all who row id other is that =
      subst (λ (p : View R × View R). Joins Rule id p.0 other p.1 (taken p.0 p.1) nobody) (λ i. (sym is i, sym that i))
      (takes all who row id other)

  -- A list of length one has one element.
  pub one_of : (xs : List (ℕ × R)) → length xs ≡ 1 → (p : ℕ × R) × (xs ≡ p ∷ [])
  one_of [] e = absurd (omega arith)
  one_of (x ∷ []) e = (x, refl)
  one_of (x ∷ y ∷ ys) e = absurd (omega arith)

  -- The one view of a fragment's badge is the fragment with its one row.
  pub known : (held : List (ℕ × R)) (views : List (View R)) (w : View R)
      → length held ≡ 1 → views ≡ fragment held ∷ [] → views ≡ w ∷ [] → (p : ℕ × R) × (held ≡ p ∷ []) × (w ≡ fragment (p ∷ []))
  known held views w len is that =
      let one = one_of held len in
      let same : w ≡ fragment held = cc (is, that) in
      (one.0, one.1, same ∙ ap fragment one.1)

  -- An authority with nothing in hand that has taken a fragment is the authority with this fragment in hand.
  pub joined : (me now : Me (Unit {0}) (View R)) (w : View R) (p : ℕ × R)
      → me ≡ (authority me.0.all [], []) → w ≡ fragment (p ∷ []) → now ≡ (taken me.0 w, me.1) → now ≡ (authority me.0.all (p ∷ []), [])
  joined me now w p is that e = e ∙ (λ i. (taken (is i).0 (that i), (is i).1))
