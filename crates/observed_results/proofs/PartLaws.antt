-- The different observed parts of results: those that the results have, each once.
use Rattle.std.proofs.Common.{◌≡◌, ◌⊎◌, inl, inr, ℕ, zero, suc, Bool, true, false, true≢false, cond, ◌||◌, List, [], ◌∷◌, ◌++◌, Some, length}
use Rattle.std.proofs.Common.{refl, sym, ap, subst, ◌∙◌, arith}
use Rattle.std.specs.Prelude.{Contains, bytes_eq, fold, slice_get}
use Rattle.std.specs.List.{list_any}
use Rattle.std.proofs.lemmas.List.Elements.{Contains-append_left, Contains-push, Contains-push_cases}
use Rattle.std.proofs.lemmas.Slice.Eq.{bytes_eq-Decides}
use Rattle.exploration.specs.local_reduction.Results.{FinalResult}
use Rattle.observed_results.specs.Lines.{observed_of, observed_parts, with_text}

nothing_in : {X : Type 0} (x : X) → Contains [] x → ⊥
nothing_in x h = let l = h.1 in omega (arith, l)

-- A text that passes the search is one of the texts.
found_there : (ts : List (List ℕ)) (t : List ℕ) → list_any (bytes_eq t) ts ≡ true → Contains ts t
found_there [] t e = cc
found_there (x ∷ ts) t e = by (bytes_eq t x) refl (found_there ts t) e
  where
    by : (b : Bool) → bytes_eq t x ≡ b → (list_any (bytes_eq t) ts ≡ true → Contains ts t) → (b || list_any (bytes_eq t) ts) ≡ true →
        Contains (x ∷ ts) t
    by true is rest e = (0, omega arith, sym ((bytes_eq-Decides t x).0 is))
    by false is rest e = let there = rest e in (suc there.0, let l = there.1 in omega (arith, l), there.2)

-- A text that the search misses is none of the texts.
missed : (ts : List (List ℕ)) (t : List ℕ) → list_any (bytes_eq t) ts ≡ false → (k : ℕ) → slice_get ts k ≡ Some t → ⊥
missed [] t e k there = cc
missed (x ∷ ts) t e k there = by (bytes_eq t x) refl (missed ts t) e k there
  where
    by : (b : Bool) → bytes_eq t x ≡ b → (list_any (bytes_eq t) ts ≡ false → (k : ℕ) → slice_get ts k ≡ Some t → ⊥) →
        (b || list_any (bytes_eq t) ts) ≡ false → (k : ℕ) → slice_get (x ∷ ts) k ≡ Some t → ⊥
    by true is rest e k there = true≢false e
    by false is rest e zero there = let same : x ≡ t = cc in true≢false (sym ((bytes_eq-Decides t x).1 (sym same)) ∙ is)
    by false is rest e (suc k) there = rest e k there

module _ (marks : List Bool) where
  -- the parts after these results, given those before
  abbrev after : List (List ℕ) → List FinalResult → List (List ℕ)
  after ts rs = fold (λ texts r. with_text texts (observed_of marks r)) ts rs

  -- A part of some result among these.
  abbrev HasResult : List FinalResult → List ℕ → Type 0
  HasResult rs t = (r : FinalResult) × Contains rs r × (t ≡ observed_of marks r)

  cons_first : (r : FinalResult) (rs : List FinalResult) → Contains (r ∷ rs) r
  cons_first r rs = (0, omega arith, refl)

  cons_later : (x : FinalResult) (rs : List FinalResult) (r : FinalResult) → Contains rs r → Contains (x ∷ rs) r
  cons_later x rs r h = (suc h.0, let l = h.1 in omega (arith, l), h.2)

  cons_cases : (x : FinalResult) (rs : List FinalResult) (r : FinalResult) → Contains (x ∷ rs) r → (x ≡ r) ⊎ Contains rs r
  cons_cases x rs r (zero, within, is) = inl is
  cons_cases x rs r (suc k, within, is) = inr (k, omega (arith, within), is)

  step_kept : (ts : List (List ℕ)) (u t : List ℕ) → Contains ts t → Contains (with_text ts u) t
  step_kept ts u t h = by (list_any (bytes_eq u) ts)
    where
      by : (b : Bool) → Contains (cond b ts (ts ++ u ∷ [])) t
      by true = h
      by false = Contains-append_left ts (u ∷ []) t h

  step_has : (ts : List (List ℕ)) (u : List ℕ) → Contains (with_text ts u) u
  step_has ts u = by (list_any (bytes_eq u) ts) refl
    where
      by : (b : Bool) → list_any (bytes_eq u) ts ≡ b → Contains (cond b ts (ts ++ u ∷ [])) u
      by true is = found_there ts u is
      by false is = Contains-push ts u

  step_cases : (ts : List (List ℕ)) (u t : List ℕ) → Contains (with_text ts u) t → Contains ts t ⊎ (u ≡ t)
  step_cases ts u t = by (list_any (bytes_eq u) ts)
    where
      by : (b : Bool) → Contains (cond b ts (ts ++ u ∷ [])) t → Contains ts t ⊎ (u ≡ t)
      by true h = inl h
      by false h = Contains-push_cases ts u t h

  kept : (ts : List (List ℕ)) (rs : List FinalResult) (t : List ℕ) → Contains ts t → Contains (after ts rs) t
  kept ts [] t h = h
  kept ts (r ∷ rs) t h = kept (with_text ts (observed_of marks r)) rs t (step_kept ts (observed_of marks r) t h)

  has_all : (ts : List (List ℕ)) (rs : List FinalResult) (r : FinalResult) → Contains rs r → Contains (after ts rs) (observed_of marks r)
  has_all ts [] r h = absurd (nothing_in r h)
  has_all ts (x ∷ rs) r h = by (has_all (with_text ts (observed_of marks x)) rs r) (cons_cases x rs r h)
    where
      by : (Contains rs r → Contains (after (with_text ts (observed_of marks x)) rs) (observed_of marks r)) → (x ≡ r) ⊎ Contains rs r →
          Contains (after (with_text ts (observed_of marks x)) rs) (observed_of marks r)
      by rest (inl same) =
          kept (with_text ts (observed_of marks x)) rs (observed_of marks r)
          (subst (λ q. Contains (with_text ts (observed_of marks x)) (observed_of marks q)) same (step_has ts (observed_of marks x)))
      by rest (inr inside) = rest inside

  has_no_other : (ts : List (List ℕ)) (rs : List FinalResult) (t : List ℕ) → Contains (after ts rs) t → Contains ts t ⊎ HasResult rs t
  has_no_other ts [] t h = inl h
  has_no_other ts (r ∷ rs) t h = by (has_no_other (with_text ts (observed_of marks r)) rs t h)
    where
      first : Contains ts t ⊎ (observed_of marks r ≡ t) → Contains ts t ⊎ HasResult (r ∷ rs) t
      first (inl before) = inl before
      first (inr same) = inr (r, cons_first r rs, sym same)

      by : Contains (with_text ts (observed_of marks r)) t ⊎ HasResult rs t → Contains ts t ⊎ HasResult (r ∷ rs) t
      by (inl h) = first (step_cases ts (observed_of marks r) t h)
      by (inr x) = inr (x.0, cons_later r rs x.0 x.1, x.2)

  -- No text is there twice.
  abbrev IsOnceText : List (List ℕ) → Type 0
  IsOnceText ts = (i j : ℕ) (t : List ℕ) → slice_get ts i ≡ Some t → slice_get ts j ≡ Some t → i ≡ j

  data Place (ts : List (List ℕ)) (u t : List ℕ) (k : ℕ) : Type 0 where
    before : slice_get ts k ≡ Some t → Place ts u t k
    last : k ≡ length ts → u ≡ t → Place ts u t k

  place_of : (ts : List (List ℕ)) (u t : List ℕ) (k : ℕ) → slice_get (ts ++ u ∷ []) k ≡ Some t → Place ts u t k
  place_of [] u t zero there = last refl (cc)
  place_of [] u t (suc k) there = cc
  place_of (x ∷ ts) u t zero there = before there
  place_of (x ∷ ts) u t (suc k) there = by (place_of ts u t k there)
    where
      by : Place ts u t k → Place (x ∷ ts) u t (suc k)
      by (before h) = before h
      by (last is same) = last (ap suc is) same

  step_once : (ts : List (List ℕ)) (u : List ℕ) → IsOnceText ts → IsOnceText (with_text ts u)
  step_once ts u once = by (list_any (bytes_eq u) ts) refl
    where
      two : list_any (bytes_eq u) ts ≡ false → (i j : ℕ) (t : List ℕ) → Place ts u t i → Place ts u t j → i ≡ j
      two is i j t (before h) (before k) = once i j t h k
      two is i j t (before h) (last at same) = absurd (missed ts u is i (h ∙ ap Some (sym same)))
      two is i j t (last at same) (before k) = absurd (missed ts u is j (k ∙ ap Some (sym same)))
      two is i j t (last at same) (last also again) = at ∙ sym also

      by : (b : Bool) → list_any (bytes_eq u) ts ≡ b → IsOnceText (cond b ts (ts ++ u ∷ []))
      by true is = once
      by false is = λ i j t h k. two is i j t (place_of ts u t i h) (place_of ts u t j k)

  once_after : (ts : List (List ℕ)) (rs : List FinalResult) → IsOnceText ts → IsOnceText (after ts rs)
  once_after ts [] once = once
  once_after ts (r ∷ rs) once = once_after (with_text ts (observed_of marks r)) rs (step_once ts (observed_of marks r) once)

  -- No part is there twice.
  pub parts_once : (results : List FinalResult) (i j : ℕ) (t : List ℕ) → slice_get (observed_parts marks results) i ≡ Some t →
      slice_get (observed_parts marks results) j ≡ Some t → i ≡ j
  parts_once results = once_after [] results (λ i j t h k. absurd (cc))

  -- Each part is that of a result.
  pub parts_sound : (results : List FinalResult) (t : List ℕ) → Contains (observed_parts marks results) t → HasResult results t
  parts_sound results t h = by (has_no_other [] results t h)
    where
      by : Contains [] t ⊎ HasResult results t → HasResult results t
      by (inl none) = absurd (nothing_in t none)
      by (inr x) = x

  -- The part of each result is there.
  pub parts_complete : (results : List FinalResult) (r : FinalResult) → Contains results r → Contains (observed_parts marks results) (observed_of marks r)
  parts_complete results r h = has_all [] results r h
