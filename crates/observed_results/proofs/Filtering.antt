-- The results that satisfy a condition, and their observed parts.
use Rattle.std.proofs.Common.{◌≡◌, ℕ, zero, suc, ◌+◌, ◌<◌, Bool, true, false, cond, List, [], ◌∷◌, ◌++◌, Some, length, take, refl, sym, ap, subst, ◌∙◌}
use Rattle.std.proofs.Common.{arith}
use Rattle.std.specs.Prelude.{Contains, filter, slice_get, slice_index_or}
use Rattle.std.proofs.lemmas.List.{append-nil}
use Rattle.std.proofs.lemmas.List.Elements.{filter_more}
use Rattle.exploration.specs.local_reduction.Results.{FinalResult}
use Rattle.state_conditions.specs.declared.condition.Comparison.{Comparison}
use Rattle.observed_results.specs.Filters.{satisfies, satisfying, with_satisfying}
use Rattle.observed_results.specs.Lines.{observed_of, observed_parts, with_text}
use Rattle.observed_results.proofs.ObservedParts.{fold_push}
use Rattle.observed_results.proofs.PartLaws.{parts_complete, parts_once, parts_sound}

none_in : {X : Type 0} (x : X) → Contains [] x → ⊥
none_in x h = let l = h.1 in omega (arith, l)

module _ (p : FinalResult → Bool) where
  -- What a filter keeps is in the list, and passes.
  kept_inside : (rs : List FinalResult) (r : FinalResult) → Contains (filter p rs) r → Contains rs r × (p r ≡ true)
  kept_inside [] r inside = absurd (none_in r inside)
  kept_inside (x ∷ rs) r inside = by (p x) refl (kept_inside rs r) inside
    where
      later : Contains rs r × (p r ≡ true) → Contains (x ∷ rs) r × (p r ≡ true)
      later y = ((suc y.0.0, let l = y.0.1 in omega (arith, l), y.0.2), y.1)

      by : (b : Bool) → p x ≡ b → (Contains (filter p rs) r → Contains rs r × (p r ≡ true)) →
          Contains (cond b (x ∷ filter p rs) (filter p rs)) r → Contains (x ∷ rs) r × (p r ≡ true)
      by true is rest (zero, within, same) = ((0, omega arith, same), ap p (sym same) ∙ is)
      by true is rest (suc k, within, same) = later (rest (k, omega (arith, within), same))
      by false is rest there = later (rest there)

  -- What is in the list and passes is kept.
  inside_kept : (rs : List FinalResult) (r : FinalResult) → Contains rs r → p r ≡ true → Contains (filter p rs) r
  inside_kept [] r inside e = absurd (none_in r inside)
  inside_kept (x ∷ rs) r (zero, within, same) e =
      subst (λ b. Contains (cond b (x ∷ filter p rs) (filter p rs)) r) (sym (ap p same ∙ e)) (0, omega arith, same)
  inside_kept (x ∷ rs) r (suc k, within, same) e = by (p x) (inside_kept rs r (k, omega (arith, within), same) e)
    where
      by : (b : Bool) → Contains (filter p rs) r → Contains (cond b (x ∷ filter p rs) (filter p rs)) r
      by true rest = (suc rest.0, let l = rest.1 in omega (arith, l), rest.2)
      by false rest = rest

module _ (marks : List Bool) (condition : List (List Comparison)) where
  -- With one more result, its part is added if it satisfies the condition.
  pub satisfying_more : (rs : List FinalResult) (k : ℕ) (d : FinalResult) → k < length rs →
      observed_parts marks (satisfying condition (take (k + 1) rs))
      ≡ with_satisfying marks condition (observed_parts marks (satisfying condition (take k rs))) (slice_index_or rs k d)
  satisfying_more rs k d within =
      ap (observed_parts marks) (filter_more (satisfies condition) rs k d within)
      ∙ by (satisfies condition (slice_index_or rs k d)) (satisfying condition (take k rs)) (slice_index_or rs k d)
    where
      by : (b : Bool) (xs : List FinalResult) (x : FinalResult) →
          observed_parts marks (xs ++ cond b (x ∷ []) [])
          ≡ cond b (with_text (observed_parts marks xs) (observed_of marks x)) (observed_parts marks xs)
      by true xs x = fold_push (λ texts r. with_text texts (observed_of marks r)) [] xs x
      by false xs x = ap (observed_parts marks) (append-nil xs)

  -- ---- laws

  -- Each part is that of a result that satisfies the condition.
  pub filtered_sound : (results : List FinalResult) (text : List ℕ) → Contains (observed_parts marks (satisfying condition results)) text →
      (r : FinalResult) × Contains results r × (satisfies condition r ≡ true) × (text ≡ observed_of marks r)
  filtered_sound results text there =
      let x = parts_sound marks (satisfying condition results) text there in
      let kept = kept_inside (satisfies condition) results x.0 x.1 in
      (x.0, kept.0, kept.1, x.2)

  -- The part of each such result is there.
  pub filtered_complete : (results : List FinalResult) (r : FinalResult) → Contains results r → satisfies condition r ≡ true →
      Contains (observed_parts marks (satisfying condition results)) (observed_of marks r)
  filtered_complete results r inside e =
      parts_complete marks (satisfying condition results) r (inside_kept (satisfies condition) results r inside e)

  -- No part is there twice.
  pub filtered_once : (results : List FinalResult) (i j : ℕ) (text : List ℕ) →
      slice_get (observed_parts marks (satisfying condition results)) i ≡ Some text →
      slice_get (observed_parts marks (satisfying condition results)) j ≡ Some text → i ≡ j
  filtered_once results i j text h k = parts_once marks (satisfying condition results) i j text h k

  -- Each is among all parts.
  pub filtered_numbered : (results : List FinalResult) (text : List ℕ) → Contains (observed_parts marks (satisfying condition results)) text →
      Contains (observed_parts marks results) text
  filtered_numbered results text there =
      let x = filtered_sound results text there in
      subst (Contains (observed_parts marks results)) (sym x.3) (parts_complete marks results x.0 x.1)
