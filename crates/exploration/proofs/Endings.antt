-- Rows in which no processor runs, and their results.
use Rattle.std.proofs.Common.{◌≡◌, ◌⊎◌, inl, inr, ℕ, ◌+◌, ◌<◌, ◌≤◌, zero, suc, Bool, true, false, cond, true≢false}
use Rattle.std.proofs.Common.{List, [], ◌∷◌, ◌++◌, Some, All, length, map, refl, sym, ap, subst, ◌∙◌, arith, length-append}
use Rattle.std.specs.Prelude.{Contains, slice_get, slice_index}
use Rattle.std.specs.List.{range_with_len}
use Rattle.std.proofs.lemmas.List.{get_or_append_left, length-map}
use Rattle.std.proofs.lemmas.List.Elements.{All-append, All-cons, All-nil, Contains-append_left, Contains-push}
use Rattle.std.proofs.lemmas.List.FromFn.{length-map-range_with_len, fill_by_all}
use Rattle.flat_machine.specs.State.{is_running}
use Rattle.local_reduction.specs.LocalStates.{LocalState}
use Rattle.local_reduction.specs.Forgetting.{with_live, kept_by}
use Rattle.local_reduction.specs.Results.{FinalResult, HaveStopped, StandsFor, result_at, local_state_result}
use Rattle.state_search.proofs.Lemmas.{stands_for_back, found_at, there, listed_there, listed_is, mapped_at, up_to}
use Rattle.state_search.specs.state_store.declared.state_tables.Extent.{Extent}
use Rattle.state_search.specs.state_store.StateTables.{TableLists, nowhere, placed_at, means}
use Rattle.state_search.specs.Search.{state_at}
use Rattle.exploration.specs.Endings.{AreInOrder, IsAdded, IsEnding, IsEndingAdded, IsOnce, IsResultOf, IsStoodFor, IsStoodForBefore}

-- ---- what is kept of a local state

module _ (live : List (List Bool)) (a : LocalState) where
  forgotten : LocalState
  forgotten = record a { processor = record a.processor { registers = []; local = [] } }

  -- What is kept of a local state has the result of the local state.
  pub kept_result : local_state_result (kept_by live a) ≡ local_state_result a
  unfolding forgotten
  kept_result = by (is_running a.processor.status)
    where
      by : (b : Bool) → local_state_result (cond b (with_live live a) forgotten) ≡ local_state_result a
      by true = refl
      by false = refl

  -- What is kept of a local state runs exactly if the local state does.
  pub kept_stands : is_running (kept_by live a).processor.status ≡ is_running a.processor.status
  unfolding forgotten
  kept_stands = by (is_running a.processor.status)
    where
      by : (b : Bool) → is_running (cond b (with_live live a) forgotten).processor.status ≡ is_running a.processor.status
      by true = refl
      by false = refl

-- ---- a row

module _ (e : Extent) (t : TableLists) (row : List ℕ) where
  abbrev local_state : ℕ → LocalState
  local_state p = (placed_at t (slice_index row p)).local_state

  -- The results in a row's state are those of the local states that the row names.
  pub all_results : map local_state_result (means e t row).local_states
      ≡ map (λ p. local_state_result (placed_at t (slice_index row p)).local_state) (range_with_len 0 e.processors)
  all_results = fill_by_all (λ p. local_state_result (local_state p)) (map local_state_result (means e t row).local_states) e.processors
      (local_state_result nowhere.local_state)
      (length-map (means e t row).local_states local_state_result ∙ length-map-range_with_len (λ p. kept_by t.live (local_state p)) 0 e.processors)
      (λ k l. mapped_at local_state_result (means e t row).local_states k (kept_by t.live (local_state k)) (local_state_result nowhere.local_state)
      (listed_there (λ p. kept_by t.live (local_state p)) e.processors k l) ∙ kept_result t.live (local_state k))

  -- There are as many results as processors.
  pub results_all : length (map local_state_result (means e t row).local_states) ≡ e.processors
  results_all =
      length-map (means e t row).local_states local_state_result
      ∙ length-map-range_with_len (λ p. kept_by t.live (local_state p)) 0 e.processors

  -- If no processor runs in a local state that a row names, none runs in the row's state.
  pub all_stopped : ((p : ℕ) → p < e.processors → is_running (placed_at t (slice_index row p)).local_state.processor.status ≡ false) →
      HaveStopped (means e t row)
  all_stopped h k a found =
      let here = listed_is (λ p. kept_by t.live (local_state p)) e.processors k a found in
      ap (λ (b : LocalState). is_running b.processor.status) (sym here.1) ∙ (kept_stands t.live (local_state k) ∙ h k here.0)

  -- If a processor runs in a local state that a row names, not all have stopped in the row's state.
  pub one_runs : (p : ℕ) → p < e.processors → is_running (placed_at t (slice_index row p)).local_state.processor.status ≡ true → HaveStopped (means e t row) → ⊥
  one_runs p few runs h =
      true≢false (sym runs ∙ (sym (kept_stands t.live (local_state p))
      ∙ h p (kept_by t.live (local_state p)) (listed_there (λ q. kept_by t.live (local_state q)) e.processors p few)))

-- ---- one more result

nowhere_there : {X : Type 0} (i : ℕ) (x : X) → slice_get [] i ≡ Some x → ⊥
nowhere_there i x found = cc

-- An element of a list with one appended is of the list, or is the one appended.
at_place : {X : Type 0} (xs : List X) (x y : X) (i : ℕ) → slice_get (xs ++ x ∷ []) i ≡ Some y → (slice_get xs i ≡ Some y) ⊎ ((i ≡ length xs) × (x ≡ y))
at_place [] x y zero e = inr (refl, (let same : x ≡ y = cc in same))
at_place [] x y (suc i) e = absurd (cc)
at_place (z ∷ xs) x y zero e = inl e
at_place (z ∷ xs) x y (suc i) e = by (at_place xs x y i e)
  where
    by : (slice_get xs i ≡ Some y) ⊎ ((i ≡ length xs) × (x ≡ y)) → (slice_get xs i ≡ Some y) ⊎ ((suc i ≡ suc (length xs)) × (x ≡ y))
    by (inl here) = inl here
    by (inr last) = inr (ap suc last.0, last.1)

-- A result at a place of a list is in the list.
pub has_at : (results : List FinalResult) (i : ℕ) (r : FinalResult) → slice_get results i ≡ Some r → Contains results r
has_at results i r e = let h = found_at results i r r e in (i, h.0, h.1)

-- An element at a place of a list is at the same place after others are appended.
pub still_there : {X : Type 0} (xs ys : List X) (i : ℕ) (x : X) → slice_get xs i ≡ Some x → slice_get (xs ++ ys) i ≡ Some x
still_there [] ys i x e = absurd (cc)
still_there (z ∷ xs) ys zero x e = e
still_there (z ∷ xs) ys (suc i) x e = still_there xs ys i x e

-- Each result of a list is at some place of it.
pub at_some : (results : List FinalResult) (r : FinalResult) → Contains results r → (i : ℕ) × (slice_get results i ≡ Some r)
at_some results r x = (x.0, there results x.0 r x.1 ∙ ap Some x.2)

last_number : (xs : List ℕ) (x : ℕ) → slice_index (xs ++ x ∷ []) (length xs) ≡ x
last_number [] x = refl
last_number (y ∷ ys) x = last_number ys x

once_more : (results : List FinalResult) (r : FinalResult) → (Contains results r → ⊥) → IsOnce results → IsOnce (results ++ r ∷ [])
once_more results r new once i j x ei ej = by (at_place results r x i ei) (at_place results r x j ej)
  where
    by : (slice_get results i ≡ Some x) ⊎ ((i ≡ length results) × (r ≡ x)) → (slice_get results j ≡ Some x) ⊎ ((j ≡ length results) × (r ≡ x)) → i ≡ j
    by (inl a) (inl b) = once i j x a b
    by (inl a) (inr b) = absurd (new (subst (Contains results) (sym b.1) (has_at results i x a)))
    by (inr a) (inl b) = absurd (new (subst (Contains results) (sym a.1) (has_at results j x b)))
    by (inr a) (inr b) = a.0 ∙ sym b.0

-- ---- the results of the first rows

module _ (e : Extent) (classes : List ℕ) (t : TableLists) (rows : List (List ℕ)) where
  pub record AreEndings (done : ℕ) (results : List FinalResult) : Type 0 where
    -- Each result is an exchange of the result of a row in which no processor runs.
    pub sound : All (IsEnding e classes t rows) results
    -- For each of the first `done` rows in which no processor runs, one of the results stands for the row's result.
    pub complete : (i : ℕ) → i < done → HaveStopped (state_at e t rows i) →
        IsStoodFor classes results (result_at (state_at e t rows i))
    pub once : IsOnce results
    -- The results come in the order of the rows.
    pub order : AreInOrder classes (state_at e t rows) done results

  -- The empty list has the results of the first 0 rows.
  pub no_endings : AreEndings 0 []
  no_endings = record {
    sound = All-nil (IsEnding e classes t rows);
    complete = λ i l. absurd (omega (arith, l));
    once = λ i j r e. absurd (nowhere_there i r e);
    order = record {
      places = [];
      all = refl;
      within = λ i l. absurd (omega (arith, l));
      each = λ i r e. absurd (nowhere_there i r e);
      rising = λ i j less l. absurd (omega (arith, l));
      first = λ i k l. absurd (omega (arith, l));
    };
  }

  -- The order holds for one more state if its result is there already.
  order_on : (done : ℕ) (results : List FinalResult) → AreInOrder classes (state_at e t rows) done results →
      AreInOrder classes (state_at e t rows) (done + 1) results
  order_on done results o = record {
    places = o.places;
    all = o.all;
    within = λ i l. let low = o.within i l in omega (arith, low);
    each = o.each;
    rising = o.rising;
    first = o.first;
  }

  -- one more row, whose result is there afterwards
  module _ (done : ℕ) (results new : List FinalResult) (r : FinalResult) (h : AreEndings done results) where
    grown : ((q : FinalResult) → Contains results q → Contains new q) → Contains new r →
        StandsFor classes (result_at (state_at e t rows done)) r → (i : ℕ) → i < done + 1 → HaveStopped (state_at e t rows i) →
        IsStoodFor classes new (result_at (state_at e t rows i))
    grown more here is i l = by (up_to i done l)
      where
        by : (i < done) ⊎ (i ≡ done) → HaveStopped (state_at e t rows i) → IsStoodFor classes new (result_at (state_at e t rows i))
        by (inl below) stopped = let x = h.complete i below stopped in (x.0, more x.0 x.1, x.2)
        by (inr last) stopped =
            subst (λ j. IsStoodFor classes new (result_at (state_at e t rows j))) (sym last)
            (r, here, stands_for_back classes (result_at (state_at e t rows done)) r is)

    -- a new result, which comes last
    module _ (stopped : HaveStopped (state_at e t rows done)) (is : StandsFor classes (result_at (state_at e t rows done)) r) where
      places : List ℕ
      places = h.order.places ++ done ∷ []

      long : length places ≡ length results + 1
      unfolding places
      long = omega (arith, length-append h.order.places (done ∷ []), h.order.all)

      old_place : (i : ℕ) → i < length h.order.places → slice_index places i ≡ slice_index h.order.places i
      unfolding places
      old_place i l = get_or_append_left h.order.places (done ∷ []) 0 i l

      last_place : (i : ℕ) → i ≡ length h.order.places → slice_index places i ≡ done
      unfolding places
      last_place i here = ap (slice_index places) here ∙ last_number h.order.places done

      below : (i : ℕ) → i < length places → (i < length h.order.places) ⊎ (i ≡ length h.order.places)
      below i l = up_to i (length h.order.places) (omega (arith, l, long, h.order.all))

      stood : (i k : ℕ) → i ≤ length results → IsStoodForBefore classes results i (result_at (state_at e t rows k)) →
          IsStoodForBefore classes (results ++ r ∷ []) i (result_at (state_at e t rows k))
      stood i k l x =
          let less = x.1 in
          (x.0, x.1, x.2, still_there results (r ∷ []) x.0 x.2 x.3, x.4)

      order_more : AreInOrder classes (state_at e t rows) (done + 1) (results ++ r ∷ [])
      order_more = record {
        places = places;
        all = omega (arith, long, length-append results (r ∷ []));
        within = λ i l. within i (below i l);
        each = λ i q found. each i q (at_place results r q i found);
        rising = λ i j less l. rising i j less (below j l);
        first = λ i k l. first i k (below i l);
      }
        where
          within : (i : ℕ) → (i < length h.order.places) ⊎ (i ≡ length h.order.places) → slice_index places i < done + 1
          within i (inl l) =
              let low = h.order.within i l in
              let same = old_place i l in
              omega (arith, low, same)
          within i (inr here) = let same = last_place i here in omega (arith, same)

          each : (i : ℕ) (q : FinalResult) → (slice_get results i ≡ Some q) ⊎ ((i ≡ length results) × (r ≡ q)) →
              IsResultOf classes (state_at e t rows) (slice_index places i) q
          each i q (inl found) =
              let l : i < length h.order.places = (let x = (found_at results i q q found).0 in omega (arith, x, h.order.all)) in
              subst (λ k. IsResultOf classes (state_at e t rows) k q) (sym (old_place i l)) (h.order.each i q found)
          each i q (inr x) =
              let here : i ≡ length h.order.places = x.0 ∙ sym h.order.all in
              subst (λ k. IsResultOf classes (state_at e t rows) k q) (sym (last_place i here))
              (record { stopped = stopped; is = subst (StandsFor classes (result_at (state_at e t rows done))) x.1 is })

          rising : (i j : ℕ) → i < j → (j < length h.order.places) ⊎ (j ≡ length h.order.places) → slice_index places i < slice_index places j
          rising i j less (inl l) =
              let low = h.order.rising i j less l in
              let one = old_place i (omega (arith, less, l)) in
              let other = old_place j l in
              omega (arith, low, one, other)
          rising i j less (inr here) =
              let l : i < length h.order.places = omega (arith, less, here) in
              let low = h.order.within i l in
              let one = old_place i l in
              let other = last_place j here in
              omega (arith, low, one, other)

          first : (i k : ℕ) → (i < length h.order.places) ⊎ (i ≡ length h.order.places) → k < slice_index places i →
              HaveStopped (state_at e t rows k) → IsStoodForBefore classes (results ++ r ∷ []) i (result_at (state_at e t rows k))
          first i k (inl l) low halted =
              let same = old_place i l in
              stood i k (omega (arith, l, h.order.all)) (h.order.first i k l (omega (arith, low, same)) halted)
          first i k (inr here) low halted =
              let same = last_place i here in
              let x = h.complete k (omega (arith, low, same)) halted in
              let y = at_some results x.0 x.1 in
              let l = (found_at results y.0 x.0 x.0 y.1).0 in
              (y.0, omega (arith, l, here, h.order.all), x.0, still_there results (r ∷ []) y.0 x.0 y.1, x.2)

    -- If no processor runs in the next row, adding an exchange of its result gives the results of one more row.
    pub ended : done < length rows → HaveStopped (state_at e t rows done) →
        StandsFor classes (result_at (state_at e t rows done)) r → IsAdded results r new → AreEndings (done + 1) new
    ended within stopped is (inl there) =
        let more : (q : FinalResult) → Contains results q → Contains new q = λ q. subst (λ rs. Contains rs q) (sym there.1) in
        record {
          sound = subst (All (IsEnding e classes t rows)) (sym there.1) h.sound;
          complete = grown more (more r there.0) is;
          once = subst IsOnce (sym there.1) h.once;
          order = subst (AreInOrder classes (state_at e t rows) (done + 1)) (sym there.1) (order_on done results h.order);
        }
    ended within stopped is (inr added) = record {
      sound = subst (All (IsEnding e classes t rows)) (sym added.1)
          (All-append (IsEnding e classes t rows) results (r ∷ []) h.sound
          (All-cons (IsEnding e classes t rows) r []
          (record { place = done; within = within; stopped = stopped; is = is }) (All-nil (IsEnding e classes t rows))));
      complete = grown (λ q x. subst (λ rs. Contains rs q) (sym added.1) (Contains-append_left results (r ∷ []) q x))
          (subst (λ rs. Contains rs r) (sym added.1) (Contains-push results r)) is;
      once = subst IsOnce (sym added.1) (once_more results r added.0 h.once);
      order = subst (AreInOrder classes (state_at e t rows) (done + 1)) (sym added.1) (order_more stopped is);
    }

  -- A row in which a processor runs adds no result.
  pub passed : (done : ℕ) (results : List FinalResult) → AreEndings done results →
      (HaveStopped (state_at e t rows done) → ⊥) → AreEndings (done + 1) results
  passed done results h runs = record {
    sound = h.sound;
    complete = λ i l. by i (up_to i done l);
    once = h.once;
    order = order_on done results h.order;
  }
    where
      by : (i : ℕ) → (i < done) ⊎ (i ≡ done) → HaveStopped (state_at e t rows i) →
          IsStoodFor classes results (result_at (state_at e t rows i))
      by i (inl below) s = h.complete i below s
      by i (inr last) s = absurd (runs (subst (λ j. HaveStopped (state_at e t rows j)) last s))

  -- The results of one more row, whether a processor runs in it or not.
  pub row_more : (done : ℕ) (results new : List FinalResult) → AreEndings done results → done < length rows →
      IsEndingAdded classes (state_at e t rows done) results new → AreEndings (done + 1) new
  row_more done results new h within (inl x) = ended done results new x.1 h within x.0 x.2 x.3
  row_more done results new h within (inr x) = subst (AreEndings (done + 1)) (sym x.1) (passed done results h x.0)
