-- The different observed parts of results, result by result.
use Rattle.std.proofs.Common.{◌≡◌, ◌⊎◌, inl, inr, ℕ, ◌+◌, ◌<◌, ◌≤◌, zero, suc, Bool, true, false, true≢false, not, cond, ◌||◌, List}
use Rattle.std.proofs.Common.{[], ◌∷◌, ◌++◌, Some, String, Global, string_bytes, length, take, refl, sym, ap, subst, ◌∙◌, arith}
use Rattle.std.specs.Prelude.{bytes_eq, fold, slice_get, slice_index, slice_index_or}
use Rattle.std.specs.List.{list_any}
use Rattle.std.proofs.lemmas.List.{length-append, map-append, take_more}
use Rattle.std.proofs.lemmas.Bool.{cases_lt}
use Rattle.exploration.specs.local_reduction.Results.{FinalResult}
use Rattle.observed_results.specs.Lines.{observed_of, observed_parts, with_text}
use Rattle.observed_results.specs.Parts.{AreFirsts, HasPart, IsPartAdded, texts_of}

-- ---- the texts

-- A fold over one more element.
pub fold_push : {A B : Type 0} (f : B → A → B) (b : B) (xs : List A) (x : A) → fold f b (xs ++ x ∷ []) ≡ f (fold f b xs) x
fold_push f b [] x = refl
fold_push f b (y ∷ ys) x = fold_push f (f b y) ys x

-- With one more result, its observed part is noted.
pub parts_more : (marks : List Bool) (rs : List FinalResult) (k : ℕ) (d : FinalResult) → k < length rs →
    observed_parts marks (take (k + 1) rs) ≡ with_text (observed_parts marks (take k rs)) (observed_of marks (slice_index_or rs k d))
parts_more marks rs k d within =
    ap (observed_parts marks) (take_more rs k d within)
    ∙ fold_push (λ texts r. with_text texts (observed_of marks r)) [] (take k rs) (slice_index_or rs k d)

texts_push : (keys : List (String Global)) (key : String Global) → texts_of (keys ++ key ∷ []) ≡ texts_of keys ++ string_bytes key ∷ []
texts_push keys key = map-append _ keys (key ∷ [])

-- The text at the place of a key is its own.
pub text_at : (keys : List (String Global)) (k : ℕ) (key : String Global) → slice_get keys k ≡ Some key →
    slice_index_or (texts_of keys) k [] ≡ string_bytes key
text_at [] k key there = cc
text_at (x ∷ keys) zero key there = let same : x ≡ key = cc in ap (λ (s : String Global). string_bytes s) same
text_at (x ∷ keys) (suc k) key there = text_at keys k key there

module _ (keys : List (String Global)) (key : String Global) (is : String Global → Bool)
    (same : (k : String Global) → is k ≡ bytes_eq (string_bytes key) (string_bytes k)) where
  -- A set of texts has the key exactly if its texts have the bytes of the key.
  pub found_in : (ks : List (String Global)) → list_any is ks ≡ list_any (bytes_eq (string_bytes key)) (texts_of ks)
  found_in [] = refl
  found_in (k ∷ ks) = λ j. same k j || found_in ks j

  -- If a set of texts takes one more, its texts do.
  pub texts_more : (keys' : List (String Global)) → keys' ≡ cond (list_any is keys) keys (keys ++ key ∷ []) →
      texts_of keys' ≡ with_text (texts_of keys) (string_bytes key)
  texts_more keys' next =
      ap texts_of next ∙ by (list_any is keys) (list_any (bytes_eq (string_bytes key)) (texts_of keys)) (found_in keys)
    where
      by : (b c : Bool) → b ≡ c → texts_of (cond b keys (keys ++ key ∷ []))
          ≡ cond c (texts_of keys) (texts_of keys ++ string_bytes key ∷ [])
      by true true e = refl
      by false false e = texts_push keys key
      by true false e = cc
      by false true e = cc

  -- If the key is new, its place is noted.
  pub part_added : (old new : List ℕ) (place : ℕ) (is_new : Bool) → is_new ≡ not (list_any is keys) → is_new ≡ true → new ≡ old ++ place ∷ [] →
      IsPartAdded (texts_of keys) (string_bytes key) old place new
  part_added old new place is_new e added next = next ∙ by (list_any is keys) (found_in keys) (sym added ∙ e)
    where
      by : (b : Bool) → b ≡ list_any (bytes_eq (string_bytes key)) (texts_of keys) → true ≡ not b →
          old ++ place ∷ [] ≡ cond (list_any (bytes_eq (string_bytes key)) (texts_of keys)) old (old ++ place ∷ [])
      by true found e = absurd (true≢false e)
      by false found e = ap (λ b. cond b old (old ++ place ∷ [])) found

  -- If the key is not new, no place is noted.
  pub part_kept : (old : List ℕ) (place : ℕ) (is_new : Bool) → is_new ≡ not (list_any is keys) → is_new ≡ false →
      IsPartAdded (texts_of keys) (string_bytes key) old place old
  part_kept old place is_new e old_one = by (list_any is keys) (found_in keys) (sym old_one ∙ e)
    where
      by : (b : Bool) → b ≡ list_any (bytes_eq (string_bytes key)) (texts_of keys) → false ≡ not b →
          old ≡ cond (list_any (bytes_eq (string_bytes key)) (texts_of keys)) old (old ++ place ∷ [])
      by true found e = ap (λ b. cond b old (old ++ place ∷ [])) found
      by false found e = absurd (true≢false (sym e))

-- ---- the first result of each

more_there : {X : Type 0} (xs ys : List X) (k : ℕ) (x : X) → slice_get xs k ≡ Some x → slice_get (xs ++ ys) k ≡ Some x
more_there [] ys k x there = cc
more_there (y ∷ xs) ys zero x there = there
more_there (y ∷ xs) ys (suc k) x there = more_there xs ys k x there

last_there : {X : Type 0} (xs : List X) (x : X) → slice_get (xs ++ x ∷ []) (length xs) ≡ Some x
last_there [] x = refl
last_there (y ∷ xs) x = last_there xs x

index_before : (ns : List ℕ) (n k : ℕ) → k < length ns → slice_index (ns ++ n ∷ []) k ≡ slice_index ns k
index_before [] n k within = absurd (omega (arith, within))
index_before (m ∷ ns) n zero within = refl
index_before (m ∷ ns) n (suc k) within = index_before ns n k (omega (arith, within))

index_last : (ns : List ℕ) (n : ℕ) → slice_index (ns ++ n ∷ []) (length ns) ≡ n
index_last [] n = refl
index_last (m ∷ ns) n = index_last ns n

-- If a new part is appended, its result stands beside it.
firsts_push : (marks : List Bool) (results : List FinalResult) (texts : List (List ℕ)) (places : List ℕ) (place : ℕ) (r : FinalResult) →
    slice_get results place ≡ Some r → AreFirsts marks results texts places →
    AreFirsts marks results (texts ++ observed_of marks r ∷ []) (places ++ place ∷ [])
firsts_push marks results texts places place r there f = record {
  all =
      let one = length-append places (place ∷ []) in
      let other = length-append texts (observed_of marks r ∷ []) in
      let all = f.all in omega (arith, one, other, all);
  each = λ part within. by part within (cases_lt part (length places));
}
  where
    by : (part : ℕ) → part < length (places ++ place ∷ []) → (part < length places) ⊎ (length places ≤ part) →
        (q : FinalResult) × (slice_get results (slice_index (places ++ place ∷ []) part) ≡ Some q)
        × (slice_get (texts ++ observed_of marks r ∷ []) part ≡ Some (observed_of marks q))
    by part within (inl less) =
        let x = f.each part less in
        (x.0, ap (slice_get results) (index_before places place part less) ∙ x.1, more_there texts (observed_of marks r ∷ []) part (observed_of marks x.0) x.2)
    by part within (inr past) =
        let one = length-append places (place ∷ []) in
        let same : part ≡ length places = omega (arith, one, within, past) in
        let all = f.all in
        let also : part ≡ length texts = omega (arith, same, all) in (
          r,
          ap (slice_get results) (ap (slice_index (places ++ place ∷ [])) same ∙ index_last places place) ∙ there,
          ap (slice_get (texts ++ observed_of marks r ∷ [])) also ∙ last_there texts (observed_of marks r),
        )

-- With one more result, whose place is noted if its part is new, the results still stand beside their parts.
pub firsts_more : (marks : List Bool) (results : List FinalResult) (texts : List (List ℕ)) (old new : List ℕ) (place : ℕ) (r : FinalResult) →
    slice_get results place ≡ Some r → AreFirsts marks results texts old → IsPartAdded texts (observed_of marks r) old place new →
    AreFirsts marks results (with_text texts (observed_of marks r)) new
firsts_more marks results texts old new place r there f added =
    subst (AreFirsts marks results (with_text texts (observed_of marks r))) (sym added) (by (list_any (bytes_eq (observed_of marks r)) texts))
  where
    by : (b : Bool) → AreFirsts marks results (cond b texts (texts ++ observed_of marks r ∷ [])) (cond b old (old ++ place ∷ []))
    by true = f
    by false = firsts_push marks results texts old place r there f

-- ---- the part of a number

-- The first result that has a part has the part of this number.
pub part_there : (marks : List Bool) (results : List FinalResult) (texts : List (List ℕ)) (places : List ℕ) (part number first : ℕ) →
    number ≡ suc part → part < length places → first ≡ slice_index places part + 1 → texts ≡ observed_parts marks results →
    AreFirsts marks results texts places → HasPart marks results number first
part_there marks results texts places part number first is within next are f =
    subst (λ n. HasPart marks results n first) (sym is) (
      slice_index places part,
      (f.each part within).0,
      next ∙ (omega arith),
      (f.each part within).1,
      ap (λ (ts : List (List ℕ)). slice_get ts part) (sym are) ∙ (f.each part within).2,
    )
