-- Exchanging the processors of a row exchanges those of its state.
use Rattle.std.proofs.Common.{◌≡◌, ◌⊎◌, inl, inr, ℕ, ◌<◌, ◌≤◌, Bool, true, false, cond, List, Some, None, length, refl, sym, ap, subst, ◌∙◌, arith}
use Rattle.std.specs.Prelude.{slice_get, slice_index}
use Rattle.state_store.specs.local_reduction.Closing.{MacroState}
use Rattle.std.proofs.lemmas.Bool.{cases_lt}
use Rattle.std.proofs.lemmas.Option.{slice_get_past}
use Rattle.std.proofs.lemmas.List.FromFn.{length-map-range_with_len}
use Rattle.state_store.specs.local_reduction.Exchanging.{AreAlike, IsExchanged}
use Rattle.state_store.proofs.Lemmas.local_reduction.{found_there, found_within}
use Rattle.state_search.specs.Rows.{IsRowExchanged}
use Rattle.state_store.specs.local_reduction.Forgetting.{kept_by}
use Rattle.state_store.specs.declared.state_tables.Extent.{Extent}
use Rattle.state_store.specs.StateTables.{TableLists, placed_at, words_at, setting_at, own_setting, means, IsRow}
use Rattle.state_search.specs.Search.{IsNextUpTo}
use Rattle.state_store.specs.Moves.{AreClasses, IsNext}
use Rattle.state_store.proofs.Lemmas.{listed_there}

-- A processor of the same class as one of the list is itself in the list.
within : (classes : List ℕ) (j k : ℕ) → AreAlike classes j k → k < length classes → j < length classes
within classes j k e l = let x = found_there classes k l in found_within classes j x.0 (e ∙ x.1)

module _ (e : Extent) (classes : List ℕ) (t : TableLists) (old new : List ℕ) (are : AreClasses e classes)
    (x : IsRowExchanged classes old new) where
  place_there : (p : ℕ) → p < e.processors → x.exchange.place p < e.processors
  place_there p few =
      subst (λ n. x.exchange.place p < n) are.all
      (within classes (x.exchange.place p) p (x.exchange.alike p) (subst (λ n. p < n) (sym are.all) few))

  number_is : (p : ℕ) → p < e.processors → slice_index new p ≡ slice_index old (x.exchange.place p)
  number_is p few = x.each p (subst (λ n. p < n) (sym are.all) few)

  words_same : slice_index new e.processors ≡ slice_index old e.processors
  words_same = x.others e.processors (omega (arith, are.all))

  own_same : (p : ℕ) → p < e.processors → own_setting e (x.exchange.place p) ≡ own_setting e p
  own_same p few = by e.exchanged refl
    where
      by : (b : Bool) → e.exchanged ≡ b → setting_at e (cond e.exchanged 0 (x.exchange.place p)) ≡ setting_at e (cond e.exchanged 0 p)
      by true on = ap (λ b. setting_at e (cond b 0 (x.exchange.place p))) on ∙ sym (ap (λ b. setting_at e (cond b 0 p)) on)
      by false off = ap (λ q. setting_at e (cond e.exchanged 0 q)) (are.own off (x.exchange.place p) p few (x.exchange.alike p))

  -- A row whose processors are exchanged within their classes is still a row of the tables.
  pub row_ordered : IsRow e t old → IsRow e t new
  row_ordered h = record {
    there = λ p few. subst (λ i. i < length t.local_states) (sym (number_is p few)) (h.there (x.exchange.place p) (place_there p few));
    own = λ p few.
        ap (λ i. (placed_at t i).setting) (number_is p few) ∙ (h.own (x.exchange.place p) (place_there p few) ∙ own_same p few);
    words = subst (λ i. i < length t.words) (sym words_same) h.words;
    all = ap (λ n. length (words_at t n)) words_same ∙ h.all;
    rest = λ k more. x.others k (omega (arith, are.all, more)) ∙ h.rest k more;
  }

  -- A row with its processors exchanged means the state with its processors exchanged.
  pub ordered_means : IsExchanged x.exchange.place (means e t old) (means e t new)
  ordered_means = record {
    shared = ap (words_at t) words_same;
    each = λ k. by k (cases_lt k e.processors);
  }
    where
      past : (row : List ℕ) (k : ℕ) → e.processors ≤ k → slice_get (means e t row).local_states k ≡ None
      past row k far =
          let long = length-map-range_with_len (λ p. kept_by t.live (placed_at t (slice_index row p)).local_state) 0 e.processors in
          slice_get_past (means e t row).local_states k (omega (arith, long, far))

      far_too : (k : ℕ) → e.processors ≤ k → (x.exchange.place k < e.processors) ⊎ (e.processors ≤ x.exchange.place k) → e.processors ≤ x.exchange.place k
      far_too k far (inr there) = there
      far_too k far (inl near) =
          let l = within classes k (x.exchange.place k) (sym (x.exchange.alike k)) (subst (λ n. x.exchange.place k < n) (sym are.all) near) in
          absurd (omega (arith, l, far, are.all))

      by : (k : ℕ) → (k < e.processors) ⊎ (e.processors ≤ k) →
          slice_get (means e t new).local_states k ≡ slice_get (means e t old).local_states (x.exchange.place k)
      by k (inl few) =
          listed_there (λ q. kept_by t.live (placed_at t (slice_index new q)).local_state) e.processors k few
          ∙ (ap (λ i. Some (kept_by t.live (placed_at t i).local_state)) (number_is k few)
          ∙ sym (listed_there (λ q. kept_by t.live (placed_at t (slice_index old q)).local_state) e.processors (x.exchange.place k) (place_there k few)))
      by k (inr far) = past new k far ∙ sym (past old (x.exchange.place k) (far_too k far (cases_lt (x.exchange.place k) e.processors)))

-- A move to a row leads, up to exchanges, to the row with its processors exchanged.
pub next_ordered : (e : Extent) (code : List ℕ) (classes : List ℕ) (t : TableLists) (s : MacroState) (k : ℕ) → AreClasses e classes →
    (old new : List ℕ) → IsNext e code classes t s k (Some old) → IsRowExchanged classes old new →
    IsNextUpTo e code classes t s k (Some new)
next_ordered e code classes t s k are old new moved x = (
  row_ordered e classes t old new are x moved.0,
  record {
    mover = k;
    alike = refl;
    same = refl;
    left = means e t old;
    move = moved.1;
    exchange = (x.exchange, ordered_means e classes t old new are x);
  },
)
