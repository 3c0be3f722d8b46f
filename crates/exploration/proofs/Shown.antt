-- Rows in which no processor runs, each with its result: rows with equal results are equal.
use Rattle.std.proofs.Common.{◌≡◌, ◌⊎◌, inl, inr, ℕ, ◌<◌, Bool, true, false, cond, true≢false}
use Rattle.std.proofs.Common.{List, [], ◌∷◌, ◌++◌, Some, length, refl, sym, ap, subst, ◌∙◌, arith, length-append}
use Rattle.std.specs.Prelude.{Contains, nat_eq, not, slice_get, slice_index, slice_index_or}
use Rattle.std.specs.Cmp.Lexicographic.{nat_list_eq_equiv, pointwise}
use Rattle.std.specs.List.{list_any}
use Rattle.std.specs.Option.{option_map}
use Rattle.std.proofs.lemmas.List.{get_or_append_left}
use Rattle.std.proofs.lemmas.Option.{slice_get-map}
use Rattle.std.proofs.lemmas.Bool.Decides.{Decides-eqb}
use Rattle.std.proofs.lemmas.Map.Views.{Contains-from_any, list_any-from_Contains}
use Rattle.std.proofs.lemmas.Slice.Eq.{slice_eq-Decides}
use Rattle.indexmap.specs.IndexSet.{insert_key}
use Rattle.flat_machine.specs.State.{is_running}
use Rattle.local_reduction.specs.LocalStates.{LocalState}
use Rattle.local_reduction.specs.Closing.{MacroState}
use Rattle.local_reduction.specs.Exchanging.{IsExchanged}
use Rattle.local_reduction.specs.Forgetting.{with_live, kept_by}
use Rattle.local_reduction.specs.Results.{FinalResult, ProcessorResult, HaveStopped, IsResultExchanged, StandsFor, result_at, local_state_result}
use Rattle.state_search.specs.state_store.declared.state_tables.Extent.{Extent}
use Rattle.state_search.specs.Rows.{IsRowExchanged}
use Rattle.state_search.specs.Search.{state_at}
use Rattle.state_search.specs.state_store.Moves.{AreClasses}
use Rattle.state_search.specs.state_store.StateTables.{TableLists, nowhere, placed_at, means, AreDifferent, IsRow}
use Rattle.state_search.proofs.Lemmas.{any_default, found_at, listed_at, listed_same, listed_there, ordered_means, rows_same, up_to}
use Rattle.exploration.specs.Endings.{AreShown, IsAdded, IsRowAdded}
use Rattle.exploration.proofs.Endings.{all_results, at_some, has_at, kept_stands, still_there}

-- ---- results of equal states

-- the local state of a stopped processor with this result
stopped_with : ProcessorResult → LocalState
stopped_with r = record { processor = record { pc = r.pc; registers = []; local = []; status = r.status }; console = r.console }

kept_told : (live : List (List Bool)) (a : LocalState) → is_running a.processor.status ≡ false → kept_by live a ≡ stopped_with (local_state_result a)
unfolding stopped_with
kept_told live a = by (is_running a.processor.status)
  where
    by : (b : Bool) → b ≡ false →
        cond b (with_live live a) (record a { processor = record a.processor { registers = []; local = [] } }) ≡ stopped_with (local_state_result a)
    by true e = absurd (true≢false e)
    by false e = refl

module _ (e : Extent) (t : TableLists) (r s : List ℕ) (h : HaveStopped (means e t r)) (k : HaveStopped (means e t s))
    (same : result_at (means e t r) ≡ result_at (means e t s)) where
  at : (row : List ℕ) → ℕ → LocalState
  at row p = (placed_at t (slice_index row p)).local_state

  stopped : (row : List ℕ) → HaveStopped (means e t row) → (p : ℕ) → p < e.processors → is_running (at row p).processor.status ≡ false
  unfolding at
  stopped row all p few =
      sym (kept_stands t.live (at row p)) ∙ all p (kept_by t.live (at row p)) (listed_there (λ q. kept_by t.live (at row q)) e.processors p few)

  shown : (p : ℕ) → p < e.processors → local_state_result (at r p) ≡ local_state_result (at s p)
  unfolding at
  shown p few =
      sym (listed_at (λ q. local_state_result (at r q)) e.processors p (local_state_result nowhere.local_state) few)
      ∙ (ap (λ (xs : List ProcessorResult). slice_index_or xs p (local_state_result nowhere.local_state))
      (sym (all_results e t r) ∙ (ap (λ (x : FinalResult). x.processors) same ∙ all_results e t s))
      ∙ listed_at (λ q. local_state_result (at s q)) e.processors p (local_state_result nowhere.local_state) few)

  one : (p : ℕ) → p < e.processors → kept_by t.live (at r p) ≡ kept_by t.live (at s p)
  one p few =
      kept_told t.live (at r p) (stopped r h p few) ∙ (ap stopped_with (shown p few) ∙ sym (kept_told t.live (at s p) (stopped s k p few)))

  pub states_same : means e t r ≡ means e t s
  unfolding at
  states_same =
      let local_states = listed_same (λ p. kept_by t.live (at s p)) e.processors (λ p. kept_by t.live (at r p)) one in
      λ i. record { local_states = local_states i; shared = (same i).words }

-- ---- exchanges

-- Exchanging the processors of a state exchanges those of its result.
result_exchanged : (place : ℕ → ℕ) (old new : MacroState) → IsExchanged place old new → IsResultExchanged place (result_at old) (result_at new)
result_exchanged place old new x = record {
  words = x.shared;
  each = λ k.
      slice_get-map local_state_result new.local_states k
      ∙ (ap (option_map local_state_result) (x.each k) ∙ sym (slice_get-map local_state_result old.local_states (place k)));
}

stopped_too : (place : ℕ → ℕ) (old new : MacroState) → IsExchanged place old new → HaveStopped old → HaveStopped new
stopped_too place old new x h k a found = h (place k) a (sym (x.each k) ∙ found)

-- ---- one more row

last_of : {X : Type 0} (xs : List X) (x d : X) → slice_index_or (xs ++ x ∷ []) (length xs) d ≡ x
last_of [] x d = refl
last_of (y ∷ ys) x d = last_of ys x d

last_there : {X : Type 0} (xs : List X) (x : X) → slice_get (xs ++ x ∷ []) (length xs) ≡ Some x
last_there [] x = refl
last_there (y ∷ ys) x = last_there ys x

one_more : (P : List ℕ → Type 0) (rows : List (List ℕ)) (row : List ℕ) → ((i : ℕ) → i < length rows → P (slice_index_or rows i [])) → P row →
    (i : ℕ) → i < length (rows ++ row ∷ []) → P (slice_index_or (rows ++ row ∷ []) i [])
one_more P rows row all one i l = by (up_to i (length rows) (let long = length-append rows (row ∷ []) in omega (arith, l, long)))
  where
    by : (i < length rows) ⊎ (i ≡ length rows) → P (slice_index_or (rows ++ row ∷ []) i [])
    by (inl less) = subst P (sym (get_or_append_left rows (row ∷ []) [] i less)) (all i less)
    by (inr here) = subst P (sym (ap (λ j. slice_index_or (rows ++ row ∷ []) j []) here ∙ last_of rows row [])) one

-- No rows have no results.
pub none_shown : (n : ℕ) (e : Extent) (t : TableLists) → AreShown n e t [] []
none_shown n e t = record {
  all = refl;
  wide = λ i l. absurd (omega (arith, l));
  are = λ i l. absurd (omega (arith, l));
  stopped = λ i l. absurd (omega (arith, l));
  each = λ i l. absurd (omega (arith, l));
}

module _ (n : ℕ) (e : Extent) (t : TableLists) (rows : List (List ℕ)) (results : List FinalResult) (h : AreShown n e t rows results) (row : List ℕ)
    (is : IsRow e t row) (long : length row ≡ n) (halted : HaveStopped (means e t row)) where
  last : FinalResult
  last = result_at (means e t row)

  -- Rows and results still match after a row in which no processor runs is appended, with its result.
  pub shown_more : AreShown n e t (rows ++ row ∷ []) (results ++ result_at (means e t row) ∷ [])
  unfolding last
  shown_more = record {
    all = let one = length-append rows (row ∷ []) in let other = length-append results (last ∷ []) in let all = h.all in omega (arith, one, other, all);
    wide = one_more (λ x. length x ≡ n) rows row h.wide long;
    are = one_more (IsRow e t) rows row h.are is;
    stopped = one_more (λ x. HaveStopped (means e t x)) rows row h.stopped halted;
    each = λ i l. by i (up_to i (length rows) (let one = length-append rows (row ∷ []) in omega (arith, l, one)));
  }
    where
      by : (i : ℕ) → (i < length rows) ⊎ (i ≡ length rows) →
          slice_get (results ++ last ∷ []) i ≡ Some (result_at (state_at e t (rows ++ row ∷ []) i))
      by i (inl less) =
          still_there results (last ∷ []) i (result_at (state_at e t rows i)) (h.each i less)
          ∙ ap (λ x. Some (result_at (means e t x))) (sym (get_or_append_left rows (row ∷ []) [] i less))
      by i (inr here) =
          ap (slice_get (results ++ last ∷ [])) (here ∙ h.all)
          ∙ (last_there results last
          ∙ ap (λ x. Some (result_at (means e t x))) (sym (ap (λ j. slice_index_or (rows ++ row ∷ []) j []) here ∙ last_of rows row [])))

  found : Contains rows row → Contains results (result_at (means e t row))
  found x =
      let same : slice_index_or rows x.0 [] ≡ row = any_default rows x.0 [] row x.1 ∙ x.2 in
      has_at results x.0 (result_at (means e t row)) (h.each x.0 x.1 ∙ ap (λ y. Some (result_at (means e t y))) same)

  new : AreDifferent t → (Contains rows row → ⊥) → Contains results (result_at (means e t row)) → ⊥
  new differ none x =
      let y = at_some results (result_at (means e t row)) x in
      let l : y.0 < length rows = (let less = (found_at results y.0 (result_at (means e t row)) (result_at (means e t row)) y.1).0 in
      let all = h.all in omega (arith, less, all)) in
      let both : Some (result_at (state_at e t rows y.0)) ≡ Some (result_at (means e t row)) = sym (h.each y.0 l) ∙ y.1 in
      let same : result_at (state_at e t rows y.0) ≡ result_at (means e t row) = cc in
      let rows_are = rows_same e t differ (slice_index_or rows y.0 []) row (h.are y.0 l) is
      (states_same e t (slice_index_or rows y.0 []) row (h.stopped y.0 l) halted same) (h.wide y.0 l ∙ sym long) in
      none (y.0, l, any_default rows y.0 row [] l ∙ rows_are)

  -- If a row is new, so is its result.
  pub result_added : AreDifferent t → (rows' : List (List ℕ)) → IsRowAdded rows row true rows' →
      IsAdded results (result_at (means e t row)) (results ++ result_at (means e t row) ∷ [])
  result_added differ rows' x = inr (new differ x.0, refl)

  -- If a row is there already, so is its result.
  pub result_there : (rows' : List (List ℕ)) → IsRowAdded rows row false rows' → IsAdded results (result_at (means e t row)) results
  result_there rows' x = inl (found x.0, refl)

-- ---- the row in order

module _ (e : Extent) (classes : List ℕ) (t : TableLists) (old new : List ℕ) (are : AreClasses e classes) (x : IsRowExchanged classes old new) where
  -- The result of a row stands for that of the row with its processors exchanged.
  pub order_stands : StandsFor classes (result_at (means e t old)) (result_at (means e t new))
  order_stands = (x.exchange, result_exchanged x.exchange.place (means e t old) (means e t new) (ordered_means e classes t old new are x))

  -- If no processor runs in a row's state, none does after its processors are exchanged.
  pub order_stopped : HaveStopped (means e t old) → HaveStopped (means e t new)
  order_stopped = stopped_too x.exchange.place (means e t old) (means e t new) (ordered_means e classes t old new are x)

-- ---- a row that is added if it is new

-- Inserting a row appends it unless it was there before, and the flag says whether it is new.
pub row_added : (rows : List (List ℕ)) (row : List ℕ) (rows' : List (List ℕ)) (fact : Bool) → fact ≡ not (list_any (pointwise nat_eq row) rows) →
    rows' ≡ insert_key (pointwise nat_eq) rows row → IsRowAdded rows row fact rows'
row_added rows row rows' fact is keys = by (list_any (pointwise nat_eq row) rows) refl
  where
    by : (b : Bool) → list_any (pointwise nat_eq row) rows ≡ b → IsRowAdded rows row fact rows'
    by true e =
        subst (λ t. IsRowAdded rows row t rows') (sym (is ∙ ap not e)) (
          Contains-from_any (λ x y h. (slice_eq-Decides {E = nat_eq} Decides-eqb x y true (sym h)).0 refl) row rows e,
          keys ∙ ap (λ b. cond b rows (rows ++ row ∷ [])) e,
        )
    by false e =
        subst (λ t. IsRowAdded rows row t rows') (sym (is ∙ ap not e)) (
          (λ x. true≢false (sym (list_any-from_Contains nat_list_eq_equiv row rows x) ∙ e)),
          keys ∙ ap (λ b. cond b rows (rows ++ row ∷ [])) e,
        )
