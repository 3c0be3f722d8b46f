-- No part is missing exactly if each result has the outcome of one of the others.
use Rattle.std.proofs.Common.{◌≡◌, ◌↔◌, ℕ, zero, suc, Bool, true, false, not, cond, ◌||◌, List, [], ◌∷◌, length, refl, sym, ap, ◌∙◌, arith}
use Rattle.std.specs.Prelude.{Contains, bytes_eq, filter}
use Rattle.std.proofs.lemmas.Slice.Eq.{bytes_eq-Decides}
use Rattle.exploration.specs.local_reduction.Results.{FinalResult}
use Rattle.observed_results.specs.Lines.{observed_of, observed_parts}
use Rattle.observed_results.specs.Outcomes.{IsMatched, has_outcome, missing_in, outcome_of}
use Rattle.observed_results.proofs.PartLaws.{parts_complete}

none_in : {X : Type 0} (x : X) → Contains [] x → ⊥
none_in x h = let l = h.1 in omega (arith, l)

or_true : (b : Bool) → (b || true) ≡ true
or_true true = refl
or_true false = refl

is_not_false : (b : Bool) → not b ≡ false → b ≡ true
is_not_false true e = refl
is_not_false false e = cc

-- ---- a filter that keeps nothing

module _ (p : FinalResult → Bool) where
  kept_none : (rs : List FinalResult) → filter p rs ≡ [] → (r : FinalResult) → Contains rs r → p r ≡ false
  kept_none [] e r inside = absurd (none_in r inside)
  kept_none (x ∷ rs) e r (zero, within, same) = by (p x) refl e
    where
      by : (b : Bool) → p x ≡ b → cond b (x ∷ filter p rs) (filter p rs) ≡ [] → p r ≡ false
      by true is e = cc
      by false is e = ap p (sym same) ∙ is
  kept_none (x ∷ rs) e r (suc k, within, same) = by (p x) (λ none. kept_none rs none r (k, omega (arith, within), same)) e
    where
      by : (b : Bool) → (filter p rs ≡ [] → p r ≡ false) → cond b (x ∷ filter p rs) (filter p rs) ≡ [] → p r ≡ false
      by true rest e = cc
      by false rest e = rest e

  none_kept : (rs : List FinalResult) → ((r : FinalResult) → Contains rs r → p r ≡ false) → filter p rs ≡ []
  none_kept [] h = refl
  none_kept (x ∷ rs) h =
      ap (λ b. cond b (x ∷ filter p rs) (filter p rs)) (h x (0, omega arith, refl))
      ∙ none_kept rs (λ r inside. h r (suc inside.0, let l = inside.1 in omega (arith, l), inside.2))

module _ (marks : List Bool) where
  -- ---- an outcome of one of the results

  has_is : (others : List FinalResult) (t : List ℕ) → has_outcome marks others t ≡ true →
      (q : FinalResult) × Contains others q × (t ≡ outcome_of marks q)
  has_is [] t e = cc
  has_is (x ∷ others) t e = by (bytes_eq (outcome_of marks x) t) refl (has_is others t) e
    where
      by : (b : Bool) → bytes_eq (outcome_of marks x) t ≡ b →
          (has_outcome marks others t ≡ true → (q : FinalResult) × Contains others q × (t ≡ outcome_of marks q)) →
          (b || has_outcome marks others t) ≡ true → (q : FinalResult) × Contains (x ∷ others) q × (t ≡ outcome_of marks q)
      by true is rest e = (x, (0, omega arith, refl), sym ((bytes_eq-Decides (outcome_of marks x) t).0 is))
      by false is rest e = let y = rest e in (y.0, (suc y.1.0, let l = y.1.1 in omega (arith, l), y.1.2), y.2)

  is_has : (others : List FinalResult) (t : List ℕ) (q : FinalResult) → Contains others q → t ≡ outcome_of marks q →
      has_outcome marks others t ≡ true
  is_has [] t q inside same = absurd (none_in q inside)
  is_has (x ∷ others) t q (zero, within, is) same =
      ap (λ b. b || has_outcome marks others t)
      ((bytes_eq-Decides (outcome_of marks x) t).1 (ap (outcome_of marks) is ∙ sym same))
  is_has (x ∷ others) t q (suc k, within, is) same =
      ap (λ b. bytes_eq (outcome_of marks x) t || b) (is_has others t q (k, omega (arith, within), is) same)
      ∙ or_true (bytes_eq (outcome_of marks x) t)

  -- ---- the law

  no_parts : (rs : List FinalResult) → length (observed_parts marks rs) ≡ 0 → rs ≡ []
  no_parts [] e = refl
  no_parts (r ∷ rs) e =
      let inside : Contains (observed_parts marks (r ∷ rs)) (observed_of marks r) = parts_complete marks (r ∷ rs) r (0, omega arith, refl) in
      let l = inside.1 in absurd (omega (arith, l, e))

  -- No part is missing exactly if each result has the outcome of one of the others.
  pub none_missing : (others results : List FinalResult) →
      (length (observed_parts marks (missing_in marks others results)) ≡ 0)
      ↔ ((r : FinalResult) → Contains results r → IsMatched marks others r)
  none_missing others results = (
    λ e r inside. has_is others (outcome_of marks r)
        (is_not_false (has_outcome marks others (outcome_of marks r)) (kept_none lacks results (no_parts (filter lacks results) e) r inside)),
    λ all. ap (λ rs. length (observed_parts marks rs)) (none_kept lacks results (λ r inside. matched r (all r inside))),
  )
    where
      lacks : FinalResult → Bool
      lacks r = not (has_outcome marks others (outcome_of marks r))

      matched : (r : FinalResult) → IsMatched marks others r → lacks r ≡ false
      matched r m = ap not (is_has others (outcome_of marks r) m.0 m.1 m.2)
