-- The set of outcomes, and the parts that are missing, result by result.
use Rattle.std.proofs.Common.{◌≡◌, ℕ, ◌+◌, ◌<◌, Bool, true, false, not, cond, ◌||◌, List, [], ◌∷◌, ◌++◌, length, take, refl, sym, ap, ◌∙◌, arith}
use Rattle.std.specs.Prelude.{bytes_eq, filter, slice_index_or}
use Rattle.std.proofs.lemmas.List.{append-nil}
use Rattle.std.proofs.lemmas.List.Elements.{filter_more}
use Rattle.std.proofs.lemmas.List.Folds.{list_any_more}
use Rattle.exploration.specs.local_reduction.Results.{FinalResult}
use Rattle.observed_results.specs.Lines.{observed_of, observed_parts, with_text}
use Rattle.observed_results.specs.Outcomes.{has_outcome, missing_in, outcome_of, with_missing}
use Rattle.observed_results.proofs.ObservedParts.{fold_push}

or_by : (b c : Bool) → cond b true c ≡ (c || b)
or_by true true = refl
or_by true false = refl
or_by false true = refl
or_by false false = refl

module _ (marks : List Bool) where
  -- If a set has the outcomes of the first results and takes that of one more, it has the outcomes of one more.
  pub outcome_more : (rs : List FinalResult) (k : ℕ) (d : FinalResult) (key text : List ℕ) (old new : Bool) → k < length rs →
      old ≡ has_outcome marks (take k rs) key → text ≡ outcome_of marks (slice_index_or rs k d) → new ≡ cond (bytes_eq text key) true old →
      new ≡ has_outcome marks (take (k + 1) rs) key
  outcome_more rs k d key text old new within before is next =
      next
      ∙ (or_by (bytes_eq text key) old
      ∙ ((λ j. before j || bytes_eq (is j) key)
      ∙ sym (list_any_more (λ r. bytes_eq (outcome_of marks r) key) rs k d within)))

  -- With one more result, its part is added to those missing, unless one of the others has its outcome.
  pub missing_more : (others rs : List FinalResult) (k : ℕ) (d : FinalResult) → k < length rs →
      observed_parts marks (missing_in marks others (take (k + 1) rs))
      ≡ with_missing marks others (observed_parts marks (missing_in marks others (take k rs))) (slice_index_or rs k d)
  missing_more others rs k d within =
      ap (observed_parts marks) (filter_more (λ r. not (has_outcome marks others (outcome_of marks r))) rs k d within)
      ∙ by (has_outcome marks others (outcome_of marks (slice_index_or rs k d))) (missing_in marks others (take k rs)) (slice_index_or rs k d)
    where
      by : (b : Bool) (xs : List FinalResult) (x : FinalResult) →
          observed_parts marks (xs ++ cond (not b) (x ∷ []) [])
          ≡ cond b (observed_parts marks xs) (with_text (observed_parts marks xs) (observed_of marks x))
      by true xs x = ap (observed_parts marks) (append-nil xs)
      by false xs x = fold_push (λ texts r. with_text texts (observed_of marks r)) [] xs x
