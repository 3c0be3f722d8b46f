-- What the states of rows say of the flat machine's states between references.
use Rattle.std.proofs.Common.{◌≡◌, ◌⊎◌, inl, inr, ℕ, zero, suc, ◌+◌, ◌<◌, ◌==◌, Bool, true, false, cond, not, List, [], ◌∷◌, Some, length, map}
use Rattle.std.proofs.Common.{refl, sym, ap, subst, ◌∙◌, arith}
use Rattle.std.specs.Prelude.{count_by, option_map, slice_get, slice_index}
use Rattle.std.specs.List.{range_with_len}
use Rattle.std.proofs.lemmas.Bool.{and_parts, eqb-true}
use Rattle.std.proofs.lemmas.List.Sums.{sum_by-cons}
use Rattle.std.proofs.lemmas.Option.{slice_get-map}
use Rattle.local_reduction.specs.flat_machine.State.{FlatState, Processor, is_running}
use Rattle.local_reduction.specs.flat_machine.Flat.{flat_run, flat_events}
use Rattle.local_reduction.specs.LocalStates.{turns}
use Rattle.local_reduction.specs.Closing.{HasStopped, IsForgetful, MacroState, ReachesMacroState}
use Rattle.local_reduction.specs.Forgetting.{kept_by}
use Rattle.local_reduction.specs.Results.{FinalResult, ProcessorResult, StandsFor, local_state_result, no_processor}
use Rattle.local_reduction.specs.Results.{processor_result, result_at}
use Rattle.state_conditions.specs.declared.condition.Comparison.{Comparison}
use Rattle.state_conditions.specs.declared.condition.Group.TheVariants as group
use Rattle.state_conditions.specs.declared.property.Kind.{Kind}
use Rattle.state_conditions.specs.declared.property.Kind.TheVariants.{Finally}
use Rattle.state_conditions.specs.Conditions.{breaks, holds, is_of}
use Rattle.state_conditions.specs.Laws.{AreExchanged, ExchangesKeepConditions}
use Rattle.state_graph.specs.Laws.{EachFoundStateIsReached, EachResultIsStoodFor, EachSpinnerIsReached, EachStateIsStoodFor}
use Rattle.state_graph.specs.Laws.{IsBetweenReferences, KeepsResults, left_after}
use Rattle.state_search.proofs.Lemmas.{found_at, listed_there}
use Rattle.state_search.specs.Ends.{AreFound, AreSome}
use Rattle.state_search.specs.Search.{state_at}
use Rattle.state_search.specs.state_store.declared.state_tables.Extent.{Extent}
use Rattle.state_search.specs.state_store.Moves.{Spinning}
use Rattle.state_search.specs.state_store.StateTables.{TableLists, means, placed_at, setting_at}
use Rattle.property_search.specs.declared.judging.Verdict.{Verdict}
use Rattle.property_search.specs.declared.judging.Verdict.TheVariants as verdict
use Rattle.state_conditions.specs.Results.{breaks_result, processor_state}
use Rattle.state_conditions.proofs.Lemmas.{states_exchanged}
use Rattle.property_search.specs.Verdicts.{IsFoundVerdict, IsVerdict}
use Rattle.exploration.proofs.Lemmas.{all_results, kept_result}

-- ---- what conditions see

map_twice : {X Y Z : Type 0} (f : Y → Z) (g : X → Y) (xs : List X) → map f (map g xs) ≡ map (λ x. f (g x)) xs
map_twice f g [] = refl
map_twice f g (x ∷ xs) = ap (λ zs. f (g x) ∷ zs) (map_twice f g xs)

-- What a condition sees of a row's state is what it sees of the local states that the row names.
pub all_seen : (e : Extent) (t : TableLists) (row : List ℕ) → map processor_state (result_at (means e t row)).processors
    ≡ map (λ p. processor_state (local_state_result (placed_at t (slice_index row p)).local_state)) (range_with_len 0 e.processors)
all_seen e t row =
    ap (map processor_state) (all_results e t row)
    ∙ map_twice processor_state (λ p. local_state_result (placed_at t (slice_index row p)).local_state) (range_with_len 0 e.processors)

-- If a result stands for another, both break the property or neither does.
breaks_alike : ExchangesKeepConditions → (kind : Kind) (condition : List (List Comparison)) (classes : List ℕ) (r q : FinalResult) →
    StandsFor classes r q → breaks_result kind condition q ≡ breaks_result kind condition r
breaks_alike law kind condition classes r q x =
    law kind condition (map processor_state r.processors) (map processor_state q.processors) q.words (states_exchanged classes r q x)
    ∙ ap (breaks kind condition (map processor_state r.processors)) x.1.words

-- ---- ends

abbrev one_if : Bool → ℕ
one_if b = cond b 1 0

none_counted : {X : Type 0} (test : X → Bool) (xs : List X) → count_by test xs ≡ 0 → (k : ℕ) (x : X) → slice_get xs k ≡ Some x → test x ≡ false
none_counted test [] e k x found = absurd (cc)
none_counted test (y ∷ ys) e zero x found =
    let same : y ≡ x = cc in
    let whole : count_by test (y ∷ ys) ≡ one_if (test y) + count_by test ys = sum_by-cons (λ z. one_if (test z)) y ys in
    ap test (sym same) ∙ by (test y) refl (omega (arith, whole, e))
  where
    by : (b : Bool) → test y ≡ b → one_if (test y) ≡ 0 → test y ≡ false
    by false is zero_is = is
    by true is zero_is = let one : one_if (test y) ≡ 1 = ap one_if is in absurd (omega (arith, one, zero_is))
none_counted test (y ∷ ys) e (suc k) x found =
    let whole : count_by test (y ∷ ys) ≡ one_if (test y) + count_by test ys = sum_by-cons (λ z. one_if (test z)) y ys in
    none_counted test ys (omega (arith, whole, e)) k x found

-- If what is left breaks a property of final states, no processor runs.
is_over : (condition : List (List Comparison)) (m : FlatState) (order : List ℕ) → breaks_result Finally condition (left_after m order) ≡ true →
    HasStopped (flat_run m (turns order))
is_over condition m order e k p found =
    let n = flat_run m (turns order) in
    let left : ℕ → ProcessorResult = processor_result n (flat_events m (turns order)) in
    let parts = and_parts (not (holds condition (map processor_state (left_after m order).processors) (left_after m order).words))
    (count_by (is_of group.Running) (map processor_state (left_after m order).processors) == 0) e in
    let none = eqb-true (count_by (is_of group.Running) (map processor_state (left_after m order).processors)) 0 parts.1 in
    let here = found_at n.processors k p no_processor found in
    let there : slice_get (map processor_state (left_after m order).processors) k ≡ Some (processor_state (left k)) =
    slice_get-map processor_state (left_after m order).processors k ∙ ap (option_map processor_state) (listed_there left (length n.processors) k here.0) in
    ap (λ (q : Processor). is_running q.status) (sym here.1)
    ∙ none_counted (is_of group.Running) (map processor_state (left_after m order).processors) none k (processor_state (left k)) there

-- ---- verdicts

module _ (e : Extent) (code : List ℕ) (classes : List ℕ) (t : TableLists) (rows : List (List ℕ)) (first : MacroState)
    (m : FlatState) (f : IsForgetful (setting_at e) code (kept_by t.live)) (some : AreSome e code classes t rows first)
    (reaches_first : ReachesMacroState (setting_at e) code (kept_by t.live) m (λ k. []) first) (law : ExchangesKeepConditions)
    (kind : Kind) (condition : List (List Comparison)) where
  begins : ReachesMacroState (setting_at e) code (kept_by t.live) m (λ k. []) (state_at e t rows 0)
  begins = subst (ReachesMacroState (setting_at e) code (kept_by t.live) m (λ k. [])) (sym some.begins) reaches_first

  keeps : KeepsResults (kept_by t.live)
  keeps = kept_result t.live

  -- If the state of a row breaks the property, a state of the flat machine does.
  pub flat_broken : EachFoundStateIsReached → IsFoundVerdict e code t rows kind condition verdict.Broken →
      IsVerdict m kind condition verdict.Broken
  flat_broken each h =
      let x = each (setting_at e) code (kept_by t.live) classes (state_at e t rows) (length rows) m h.0 f keeps some.reached begins h.1 in
      (x.0, breaks_alike law kind condition classes (result_at (state_at e t rows h.0)) _ x.1 ∙ h.2, x.2)

module _ (e : Extent) (code : List ℕ) (classes : List ℕ) (t : TableLists) (rows moves : List (List ℕ)) (first : MacroState)
    (m : FlatState) (f : IsForgetful (setting_at e) code (kept_by t.live)) (found : AreFound e code classes t rows moves first)
    (reaches_first : ReachesMacroState (setting_at e) code (kept_by t.live) m (λ k. []) first) (law : ExchangesKeepConditions)
    (kind : Kind) (condition : List (List Comparison)) where
  from_row : ReachesMacroState (setting_at e) code (kept_by t.live) m (λ k. []) (state_at e t rows 0)
  from_row = begins e code classes t rows first m f found.some reaches_first law kind condition

  -- A verdict that is true of the states of the rows is true of the flat machine.
  pub flat_verdict : EachStateIsStoodFor → EachResultIsStoodFor → EachFoundStateIsReached → EachSpinnerIsReached → (v : Verdict) →
      IsFoundVerdict e code t rows kind condition v → IsVerdict m kind condition v
  flat_verdict all ends each spins verdict.Holds h = λ order between. by order between h.1 (breaks_result kind condition (left_after m order)) refl
    where
      fine : (order : List ℕ) (i : ℕ) → i < length rows → StandsFor classes (result_at (state_at e t rows i)) (left_after m order) →
          breaks_result kind condition (left_after m order) ≡ false
      fine order i l stands = breaks_alike law kind condition classes (result_at (state_at e t rows i)) (left_after m order) stands ∙ h.0 i l

      by : (order : List ℕ) → IsBetweenReferences (flat_run m (turns order)) →
          (kind ≡ Finally) ⊎ ((i : ℕ) → i < length rows → Spinning e code (state_at e t rows i) → ⊥) →
          (b : Bool) → breaks_result kind condition (left_after m order) ≡ b → breaks_result kind condition (left_after m order) ≡ false
      by order between _ false eq = eq
      by order between (inr none) true eq =
          let x = all (setting_at e) code (kept_by t.live) classes (state_at e t rows) (length rows) moves m order f (kept_result t.live)
          found.successors from_row none between in
          fine order x.0 x.1 x.2
      by order between (inl is) true eq =
          let over = is_over condition m order (subst (λ k. breaks_result k condition (left_after m order) ≡ true) is eq) in
          let x = ends (setting_at e) code (kept_by t.live) classes (state_at e t rows) (length rows) moves m (left_after m order) f
          (kept_result t.live) found.successors from_row (order, over, refl) in
          fine order x.0 x.1 x.3
  flat_verdict all ends each spins verdict.Broken h = flat_broken e code classes t rows first m f found.some reaches_first law kind condition each h
  flat_verdict all ends each spins verdict.Unknown h =
      spins (setting_at e) code (kept_by t.live) classes (state_at e t rows) (length rows) m h.0 f found.some.reached from_row h.1 h.2
