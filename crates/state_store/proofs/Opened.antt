-- The first row means a macro state that the flat machine reaches.
use Rattle.std.proofs.Common.{◌≡◌, ◌⊎◌, Bool, cond, inl, inr, ℕ, ◌+◌, ◌<◌, ◌≤◌, zero, suc, List, [], ◌∷◌, Some, length, map, refl, sym, ap, subst, ◌∙◌, arith}
use Rattle.std.specs.Prelude.{slice_get, slice_set, slice_index}
use Rattle.std.proofs.lemmas.Bool.{cases_eq}
use Rattle.std.proofs.lemmas.List.{length-map, length-set, get_or-set_same, get_or-set_other}
use Rattle.std.proofs.lemmas.List.FromFn.{length-map-range_with_len}
use Rattle.flat_machine.specs.declared.setting.Setting.{Setting}
use Rattle.flat_machine.specs.State.{Processor}
use Rattle.hart.specs.State.{CoreState}
use Rattle.local_reduction.specs.LocalStates.{alone, IsAtReference}
use Rattle.local_reduction.specs.Closing.{local_state_of, ReachesMacroState}
use Rattle.local_reduction.specs.Forgetting.{kept_by}
use Rattle.state_store.specs.declared.state_tables.Extent.{Extent}
use Rattle.state_store.specs.Placed.{Placed, placed_of}
use Rattle.state_store.specs.StateTables.{TableLists, placed_at, words_at, HasGrown, setting_at, means, IsRow}
use Rattle.state_store.specs.Opening.{AreOfExtent, flat_of, IsOpened}
use Rattle.state_store.proofs.Listed.{found_at, listed_there}

-- An element of a mapped list is the function's value at the element there.
unmapped : {X Y : Type 0} (f : X → Y) (xs : List X) (k : ℕ) (y : Y) → slice_get (map f xs) k ≡ Some y → (x : X) × (slice_get xs k ≡ Some x) × (f x ≡ y)
unmapped f [] k y e = absurd (cc)
unmapped f (x ∷ xs) zero y e = (x, refl, (let same : f x ≡ y = cc in same))
unmapped f (x ∷ xs) (suc k) y e = unmapped f xs k y e

-- The first `done` cores are opened, under the numbers in the row.
pub record AreOpened (exchanged : Bool) (code : List ℕ) (cores : List CoreState) (t : TableLists) (row : List ℕ) (done : ℕ) : Type 0 where
  pub long : length cores < length row
  -- The row is 0 after the places of the cores.
  pub rest : (k : ℕ) → length cores ≤ k → slice_index row k ≡ 0
  -- For each of the first `done` cores, the row has the number of its local state after some turns alone.
  pub opened : (p : ℕ) (c : CoreState) → p < done → slice_get cores p ≡ Some c → IsOpened exchanged code c t (slice_index row p)

pub none_opened : (exchanged : Bool) (code : List ℕ) (cores : List CoreState) (t : TableLists) (row : List ℕ) →
    length cores < length row → ((k : ℕ) → slice_index row k ≡ 0) → AreOpened exchanged code cores t row 0
none_opened exchanged code cores t row long zeros = record {
  long = long;
  rest = λ k past. zeros k;
  opened = λ p c l. absurd (omega (arith, l));
}

pub opened_kept : (exchanged : Bool) (code : List ℕ) (c : CoreState) (t u : TableLists) (number : ℕ) →
    HasGrown t u → IsOpened exchanged code c t number → IsOpened exchanged code c u number
opened_kept exchanged code c t u number kept h =
    let same : placed_at u number ≡ placed_at t number = kept.same_local_state number h.there in
    record {
      there = omega (arith, h.there, kept.local_states);
      setting = ap (λ (a : Placed). a.setting) same ∙ h.setting;
      count = h.count;
      gone = subst (λ live. kept_by live (placed_at u number).local_state ≡ kept_by live (alone h.count c.setting code (placed_of c).local_state))
          (sym kept.live)
          (ap (λ (a : Placed). kept_by t.live a.local_state) same ∙ h.gone);
      at_reference = h.at_reference;
    }

-- If grown tables have the next core under a number, writing that number to the row opens one more core.
pub opened_on : (exchanged : Bool) (code : List ℕ) (cores : List CoreState) (t u : TableLists) (row : List ℕ) (done number : ℕ) (core : CoreState) →
    done < length cores →
    slice_get cores done ≡ Some core → HasGrown t u → AreOpened exchanged code cores t row done → IsOpened exchanged code core u number →
    AreOpened exchanged code cores u (slice_set row done number) (done + 1)
opened_on exchanged code cores t u row done number core few is kept h here = record {
  long = omega (arith, length-set row done number, h.long);
  rest = λ k past. get_or-set_other row done k number 0 (λ here. omega (arith, past, few, here)) ∙ h.rest k past;
  opened = λ p c l found. by p c l found (cases_eq p done);
}
  where
    by : (p : ℕ) (c : CoreState) → p < done + 1 → slice_get cores p ≡ Some c → (p ≡ done) ⊎ (p ≡ done → ⊥) →
        IsOpened exchanged code c u (slice_index (slice_set row done number) p)
    by p c l found (inl same) =
        let both : Some core ≡ Some c = sym is ∙ (ap (slice_get cores) (sym same) ∙ found) in
        let core_is : core ≡ c = cc in
        let at : slice_index (slice_set row done number) p ≡ number =
        ap (slice_index (slice_set row done number)) same ∙ get_or-set_same row done number 0 (omega (arith, few, h.long)) in
        subst (IsOpened exchanged code c u) (sym at) (subst (λ k. IsOpened exchanged code k u number) core_is here)
    by p c l found (inr other) =
        let at : slice_index (slice_set row done number) p ≡ slice_index row p = get_or-set_other row done p number 0 other in
        let below : p < done = omega (arith, l, other) in
        subst (IsOpened exchanged code c u) (sym at) (opened_kept exchanged code c t u (slice_index row p) kept (h.opened p c below found))

module _ (e : Extent) (code : List ℕ) (cores : List CoreState) (words : List ℕ) (t u : TableLists) (row : List ℕ) (number : ℕ)
    (of_extent : AreOfExtent e cores) (wide : length words ≡ e.shared_words) (kept : HasGrown t u)
    (h : AreOpened e.exchanged code cores t row (length cores)) (words_there : number < length u.words) (same : words_at u number ≡ words) where
  first : List ℕ
  first = slice_set row e.processors number

  core_at : (p : ℕ) → p < e.processors → (c : CoreState) × (slice_get cores p ≡ Some c)
  core_at p few = by cores p (subst (λ n. p < n) (sym of_extent.all) few)
    where
      by : (xs : List CoreState) (k : ℕ) → k < length xs → (c : CoreState) × (slice_get xs k ≡ Some c)
      by [] k l = absurd (omega (arith, l))
      by (x ∷ xs) zero l = (x, refl)
      by (x ∷ xs) (suc k) l = by xs k (omega (arith, l))

  number_at : (p : ℕ) → p < e.processors → slice_index row p ≡ slice_index first p
  unfolding first
  number_at p few = sym (get_or-set_other row e.processors p number 0 (λ same. omega (arith, few, same)))

  at_words : slice_index first e.processors ≡ number
  unfolding first
  at_words = get_or-set_same row e.processors number 0 (omega (arith, h.long, of_extent.all))

  opened_at : (p : ℕ) (c : CoreState) → p < e.processors → slice_get cores p ≡ Some c → IsOpened e.exchanged code c u (slice_index first p)
  opened_at p c few found =
      subst (IsOpened e.exchanged code c u) (number_at p few)
      (opened_kept e.exchanged code c t u (slice_index row p) kept (h.opened p c (subst (λ n. p < n) (sym of_extent.all) few) found))

  -- The row with the numbers of all cores and of the words is a row of the tables.
  pub first_row : IsRow e u (slice_set row e.processors number)
  unfolding first
  first_row = record {
    there = λ p few. (opened_at p (core_at p few).0 few (core_at p few).1).there;
    own = λ p few.
        (opened_at p (core_at p few).0 few (core_at p few).1).setting
        ∙ ap (λ (z : Setting). record z { number = cond e.exchanged 0 z.number }) (of_extent.settings p (core_at p few).0 (core_at p few).1);
    words = subst (λ i. i < length u.words) (sym at_words) words_there;
    all = ap (λ j. length (words_at u j)) at_words ∙ (ap length same ∙ wide);
    rest = λ k more. get_or-set_other row e.processors k number 0 (λ here. omega (arith, more, here)) ∙ h.rest k (omega (arith, more, of_extent.all));
  }

  -- The flat machine of the cores and words reaches the state that this row means.
  pub first_reaches : ReachesMacroState (setting_at e) code (kept_by u.live) (flat_of code cores words) (λ k. [])
      (means e u (slice_set row e.processors number))
  unfolding first
  first_reaches = record {
    settings = λ k. (λ i. record {
      number = k;
      processors = (length-map cores (λ (c : CoreState). c.state) ∙ of_extent.all) i;
      shared_words = wide i;
    });
    code_is = refl;
    shared = ap (words_at u) at_words ∙ same;
    all = length-map-range_with_len (λ p. kept_by u.live (placed_at u (slice_index first p)).local_state) 0 e.processors
        ∙ (sym of_extent.all ∙ sym (length-map cores (λ (c : CoreState). c.state)));
    each = λ k p found. by k p (unmapped (λ (c : CoreState). c.state) cores k p found);
  }
    where
      by : (k : ℕ) (p : Processor) → (c : CoreState) × (slice_get cores k ≡ Some c) × (c.state ≡ p) →
          (n : ℕ) × (slice_get (means e u first).local_states k ≡ Some (kept_by u.live (alone n (setting_at e k) code (local_state_of p []))))
          × IsAtReference (setting_at e k) code (alone n (setting_at e k) code (local_state_of p [])).processor
      by k p x =
          let few : k < e.processors = subst (λ n. k < n) of_extent.all (found_at cores k x.0 x.0 x.1).0 in
          let o = opened_at k x.0 few x.1 in
          let both : (x.0.setting, x.0.state) ≡ (setting_at e k, p) = λ i. (of_extent.settings k x.0 x.1 i, x.2 i) in (
            o.count,
            listed_there (λ q. kept_by u.live (placed_at u (slice_index first q)).local_state) e.processors k few
                ∙ ap Some (o.gone ∙ ap (λ (z : Setting × Processor). kept_by u.live (alone o.count z.0 code (local_state_of z.1 []))) both),
            subst (λ (z : Setting × Processor). IsAtReference z.0 code (alone o.count z.0 code (local_state_of z.1 [])).processor) both o.at_reference,
          )
