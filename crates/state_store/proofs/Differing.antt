-- If no two entries of the tables are equal, different rows mean different states.
use Rattle.std.proofs.Common.{◌≡◌, ◌⊎◌, inl, inr, ℕ, ◌<◌, ◌≤◌, zero, suc, Bool, true, false, true≢false, nat_eq, cond}
use Rattle.std.proofs.Common.{List, [], ◌∷◌, ◌++◌, Some, length, refl, sym, ap, subst, ◌∙◌, arith, length-append}
use Rattle.std.specs.Prelude.{slice_get, slice_index, slice_index_or}
use Rattle.std.specs.List.{AllByRecursion, IsDistinct, list_any}
use Rattle.std.specs.Cmp.Lexicographic.{pointwise}
use Rattle.std.proofs.lemmas.Bool.{cases_lt}
use Rattle.std.proofs.lemmas.Bool.Decides.{Decides-eqb}
use Rattle.std.proofs.lemmas.Grind.{same_number_lists}
use Rattle.std.proofs.lemmas.List.{get_or_append_left}
use Rattle.std.proofs.lemmas.Slice.Eq.{slice_eq-Decides}
use Rattle.indexmap.specs.IndexSet.{insert_key}
use Rattle.local_reduction.specs.Closing.{MacroState, if_running}
use Rattle.local_reduction.specs.Forgetting.{kept_by, with_live}
use Rattle.state_store.specs.declared.state_tables.Extent.{Extent}
use Rattle.state_store.specs.Keys.{key_of, same_key}
use Rattle.state_store.specs.KeyLaws.{keys_decide}
use Rattle.state_store.specs.Placed.{Placed, IsBare, IsEqual}
use Rattle.state_store.specs.StateTables.{TableLists, nowhere, placed_at, words_at, means, AreDifferent, AreLeast, IsRow}
use Rattle.state_store.proofs.Keys.{key_same}
use Rattle.state_store.proofs.Listed.{listed_there}

-- ---- keys, no two of them equal

each : {K : Type 0} (P : K → Type 0) (xs : List K) → AllByRecursion P xs → (i : ℕ) (d : K) → i < length xs → P (slice_index_or xs i d)
each P [] h i d l = absurd (omega (arith, l))
each P (x ∷ xs) h zero d l = h.0
each P (x ∷ xs) h (suc i) d l = each P xs h.1 i d (omega (arith, l))

apart : {K : Type 0} (eq : K → K → Bool) (xs : List K) → IsDistinct eq xs → (i j : ℕ) (d : K) → i < j → j < length xs →
    eq (slice_index_or xs i d) (slice_index_or xs j d) ≡ false
unfolding IsDistinct
apart eq [] h i j d less l = absurd (omega (arith, l))
apart eq (x ∷ xs) h zero zero d less l = absurd (omega (arith, less))
apart eq (x ∷ xs) h zero (suc j) d less l = each (λ y. eq x y ≡ false) xs h.0 j d (omega (arith, l))
apart eq (x ∷ xs) h (suc i) zero d less l = absurd (omega (arith, less))
apart eq (x ∷ xs) h (suc i) (suc j) d less l = apart eq xs h.1 i j d (omega (arith, less)) (omega (arith, l))

-- If no two elements of a list are equal, places with equal elements are the same.
pub one_place : {K : Type 0} (eq : K → K → Bool) (xs : List K) → IsDistinct eq xs → (i j : ℕ) (d : K) → i < length xs → j < length xs →
    eq (slice_index_or xs i d) (slice_index_or xs j d) ≡ true → eq (slice_index_or xs j d) (slice_index_or xs i d) ≡ true → i ≡ j
one_place eq xs h i j d li lj one other = by (cases_lt i j) (cases_lt j i)
  where
    by : (i < j) ⊎ (j ≤ i) → (j < i) ⊎ (i ≤ j) → i ≡ j
    by (inl less) last = absurd (true≢false (sym one ∙ apart eq xs h i j d less lj))
    by (inr past) (inl less) = absurd (true≢false (sym other ∙ apart eq xs h j i d less li))
    by (inr past) (inr low) = omega (arith, past, low)

-- ---- tables

equal_kept : (live : List (List Bool)) (a b : Placed) → IsBare live a → IsBare live b → a.setting ≡ b.setting →
    kept_by live a.local_state ≡ kept_by live b.local_state → IsEqual a b
equal_kept live a b bare_a bare_b setting kept = record {
  setting = setting;
  equal = ap if_running (sym (whole a bare_a)) ∙ (kept ∙ ap if_running (whole b bare_b));
}
  where
    whole : (c : Placed) → IsBare live c → with_live live c.local_state ≡ c.local_state
    whole c bare = λ i. record c.local_state { processor = record c.local_state.processor { registers = bare i } }

-- If dead registers are 0 in the tables, and no two keys and no two lists in them are equal, then no two local states
-- of one setting are kept alike, and no two lists have the same words.
pub are_different : (t : TableLists) → AreLeast t → IsDistinct same_key t.local_states → IsDistinct (pointwise nat_eq) t.words → AreDifferent t
are_different t least local_states words = record {
  local_states = λ i j li lj setting kept.
      let a = placed_at t i in
      let b = placed_at t j in
      let equal = equal_kept t.live a b (least i li) (least j lj) setting kept in
      let same : key_of a ≡ key_of b = key_same a b equal in
      one_place same_key t.local_states local_states i j nowhere li lj ((keys_decide (key_of a) (key_of b)).1 same)
      ((keys_decide (key_of b) (key_of a)).1 (sym same));
  words = λ i j li lj same.
      one_place (pointwise nat_eq) t.words words i j [] li lj (equal (words_at t i) (words_at t j) same)
      (equal (words_at t j) (words_at t i) (sym same));
}
  where
    equal : (xs ys : List ℕ) → xs ≡ ys → pointwise nat_eq xs ys ≡ true
    equal xs ys same = (slice_eq-Decides {E = nat_eq} Decides-eqb xs ys (pointwise nat_eq xs ys) refl).1 same

-- ---- rows

module _ (e : Extent) (t : TableLists) (differ : AreDifferent t) (r s : List ℕ) (h : IsRow e t r) (k : IsRow e t s)
    (same : means e t r ≡ means e t s) where
  number_same : (p : ℕ) → p < e.processors → slice_index r p ≡ slice_index s p
  number_same p few =
      differ.local_states (slice_index r p) (slice_index s p) (h.there p few) (k.there p few) (h.own p few ∙ sym (k.own p few))
      (let both : Some (kept_by t.live (placed_at t (slice_index r p)).local_state) ≡ Some (kept_by t.live (placed_at t (slice_index s p)).local_state) =
      sym (listed_there (λ q. kept_by t.live (placed_at t (slice_index r q)).local_state) e.processors p few)
      ∙ (ap (λ (z : MacroState). slice_get z.local_states p) same
      ∙ listed_there (λ q. kept_by t.live (placed_at t (slice_index s q)).local_state) e.processors p few) in cc)

  words_same : slice_index r e.processors ≡ slice_index s e.processors
  words_same =
      differ.words (slice_index r e.processors) (slice_index s e.processors) h.words k.words (ap (λ (z : MacroState). z.shared) same)

  -- If no two entries of the tables are equal, rows of one length that mean the same state are equal.
  pub rows_same : length r ≡ length s → r ≡ s
  rows_same long = same_number_lists r s long (λ i l. by i (cases_lt i e.processors) (cases_lt e.processors i))
    where
      by : (i : ℕ) → (i < e.processors) ⊎ (e.processors ≤ i) → (e.processors < i) ⊎ (i ≤ e.processors) → slice_index r i ≡ slice_index s i
      by i (inl few) last = number_same i few
      by i (inr past) (inl more) = h.rest i more ∙ sym (k.rest i more)
      by i (inr past) (inr low) =
          let here : i ≡ e.processors = omega (arith, past, low) in
          ap (slice_index r) here ∙ (words_same ∙ ap (slice_index s) (sym here))

-- No two rows mean the same state.
pub rows_differ : (e : Extent) (t : TableLists) (rows : List (List ℕ)) (wide : ℕ) → AreDifferent t → IsDistinct (pointwise nat_eq) rows →
    ((i : ℕ) → i < length rows → IsRow e t (slice_index_or rows i [])) → ((i : ℕ) → i < length rows → length (slice_index_or rows i []) ≡ wide) →
    (i j : ℕ) → i < length rows → j < length rows →
    means e t (slice_index_or rows i []) ≡ means e t (slice_index_or rows j []) → i ≡ j
rows_differ e t rows wide differ distinct are long i j li lj same =
    let equal = rows_same e t differ (slice_index_or rows i []) (slice_index_or rows j []) (are i li) (are j lj) same (long i li ∙ sym (long j lj)) in
    one_place (pointwise nat_eq) rows distinct i j [] li lj (of _ _ equal) (of _ _ (sym equal))
  where
    of : (xs ys : List ℕ) → xs ≡ ys → pointwise nat_eq xs ys ≡ true
    of xs ys equal = (slice_eq-Decides {E = nat_eq} Decides-eqb xs ys (pointwise nat_eq xs ys) refl).1 equal

-- ---- tables that grow

-- If a property holds of a key and of all keys of a list, it holds of all after the key is inserted.
pub inserted_all : {K : Type 0} (eq : K → K → Bool) (P : K → Type 0) (xs : List K) (x d : K) →
    ((i : ℕ) → i < length xs → P (slice_index_or xs i d)) → P x →
    (i : ℕ) → i < length (insert_key eq xs x) → P (slice_index_or (insert_key eq xs x) i d)
inserted_all {K} eq P xs x d all one = by (list_any (eq x) xs)
  where
    last : (ys : List K) → slice_index_or (ys ++ x ∷ []) (length ys) d ≡ x
    last [] = refl
    last (y ∷ ys) = last ys

    at : (i : ℕ) → i < length (xs ++ x ∷ []) → (i < length xs) ⊎ (length xs ≤ i) → P (slice_index_or (xs ++ x ∷ []) i d)
    at i l (inl below) = subst P (sym (get_or_append_left xs (x ∷ []) d i below)) (all i below)
    at i l (inr past) =
        let here : i ≡ length xs = omega (arith, l, past, length-append xs (x ∷ [])) in
        subst P (sym (ap (λ j. slice_index_or (xs ++ x ∷ []) j d) here ∙ last xs)) one

    by : (b : Bool) → (i : ℕ) → i < length (cond b xs (xs ++ x ∷ [])) → P (slice_index_or (cond b xs (xs ++ x ∷ [])) i d)
    by true i l = all i l
    by false i l = at i l (cases_lt i (length xs))
