-- What the results of found states stand for.
use Rattle.std.proofs.Common.{◌≡◌, ℕ, suc, List, [], ◌∷◌, Some, None, length, map, refl, sym, ap, subst, ◌∙◌}
use Rattle.std.specs.Prelude.{slice_get, slice_index_or, option_map}
use Rattle.std.specs.List.{range_with_len}
use Rattle.std.proofs.lemmas.List.{length-map}
use Rattle.std.proofs.lemmas.List.FromFn.{fill_by_all}
use Rattle.std.proofs.lemmas.Option.{slice_get-map, slice_get-get_or, get_or_from_slice_get}
use Rattle.local_reduction.specs.flat_machine.declared.event.Event.{Event}
use Rattle.local_reduction.specs.flat_machine.State.{FlatState}
use Rattle.local_reduction.specs.flat_machine.Flat.{flat_run, flat_events}
use Rattle.local_reduction.specs.LocalStates.{LocalState, consoles_after, turns}
use Rattle.local_reduction.specs.Closing.{local_state_of, MacroState, IsKeptOf}
use Rattle.local_reduction.specs.Exchanging.{IsExchanged}
use Rattle.local_reduction.specs.Results.{ProcessorResult, FinalResult, no_processor, processor_result, result_of}
use Rattle.local_reduction.specs.Results.{local_state_result, result_at, IsResultExchanged}
use Rattle.local_reduction.specs.Laws.{SetsClosedUpToContainAllFinalStates, EachExchangeIsReached}
use Rattle.local_reduction.proofs.Lemmas.{exchanged_back, some_inj}
use Rattle.state_graph.specs.Laws.{KeepsResults, EachResultIsStoodFor, AllStoodForAreResults}
use Rattle.state_graph.proofs.Scheduling.{all_ends, none_runs}

-- ---- lists

-- Lists with the same elements are equal.
same_list : {X : Type 0} (xs ys : List X) → ((k : ℕ) → slice_get xs k ≡ slice_get ys k) → xs ≡ ys
same_list [] [] e = refl
same_list [] (y ∷ ys) e = let f : None ≡ Some y = e 0 in absurd (cc)
same_list (x ∷ xs) [] e = let f : Some x ≡ None = e 0 in absurd (cc)
same_list (x ∷ xs) (y ∷ ys) e =
    let first : x ≡ y = some_inj x y (e 0) in
    let rest : xs ≡ ys = same_list xs ys (λ k. e (suc k)) in
    λ i. first i ∷ rest i

-- ---- the result of what is kept

module _ (kept : LocalState → LocalState) (keeps : KeepsResults kept) where
  -- The result of a flat machine is that of what is kept of it.
  pub result_kept : (n : FlatState) (events : List (ℕ × Event)) (v : MacroState) →
      IsKeptOf kept n (consoles_after (λ j. []) events) v → result_of n events ≡ result_at v
  result_kept n events v h =
      let local_state : ℕ → LocalState = λ k.
      local_state_of (slice_index_or n.processors k no_processor) (consoles_after (λ j. []) events k) in
      let shown : ℕ → ProcessorResult = processor_result n events in
      let processors : map shown (range_with_len 0 (length n.processors)) ≡ map local_state_result v.local_states =
      sym (fill_by_all shown (map local_state_result v.local_states) (length n.processors) (shown 0)
      (length-map v.local_states local_state_result ∙ h.all)
      (λ k l. get_or_from_slice_get (map local_state_result v.local_states) k (local_state_result (kept (local_state k))) (shown 0)
      (slice_get-map local_state_result v.local_states k
      ∙ ap (option_map local_state_result) (h.each k (slice_index_or n.processors k no_processor)
      (slice_get-get_or n.processors k no_processor l)))
      ∙ keeps (local_state k))) in
      λ i. record { processors = processors i; words = sym h.shared i }

-- The result of an exchanged state is the exchanged result.
pub result_exchanged : (place : ℕ → ℕ) (s v : MacroState) → IsExchanged place s v →
    IsResultExchanged place (result_at s) (result_at v)
result_exchanged place s v e = record {
  words = e.shared;
  each = λ k.
      slice_get-map local_state_result v.local_states k
      ∙ (ap (option_map local_state_result) (e.each k) ∙ sym (slice_get-map local_state_result s.local_states (place k)));
}

-- An exchange gives one result only.
exchanged_is : (place : ℕ → ℕ) (r q p : FinalResult) → IsResultExchanged place r q → IsResultExchanged place r p → q ≡ p
exchanged_is place r q p a b =
    let processors = same_list q.processors p.processors (λ k. a.each k ∙ sym (b.each k)) in
    λ i. record { processors = processors i; words = (a.words ∙ sym b.words) i }

-- ---- the laws

-- If sets that are closed up to exchanges have all final states, then for each result of the flat machine there is a
-- found state whose result stands for it.
pub complete : SetsClosedUpToContainAllFinalStates → EachResultIsStoodFor
complete law at code kept classes state count moves m q f keeps h reaches is =
    let z = all_ends at code kept classes state count moves h m (λ k. []) reaches f law is.0 is.1 in
    let turned_back = exchanged_back classes z.3.0 (state z.0) z.1 z.3.1 in
    let still = none_runs at code kept (flat_run m (turns is.0)) (consoles_after (λ k. []) (flat_events m (turns is.0)))
    z.1 f z.4 is.1 in (
      z.0,
      z.2,
      λ k a found. still (z.3.0.taker k) a (sym (turned_back.each k) ∙ found),
      (
        z.3.0,
        subst (IsResultExchanged z.3.0.place (result_at (state z.0)))
            (sym (is.2 ∙ result_kept kept keeps (flat_run m (turns is.0)) (flat_events m (turns is.0)) z.1 z.4))
            (result_exchanged z.3.0.place (state z.0) z.1 z.3.1),
      ),
    )

-- If each exchange of a found state is reached, all results for which the result of a found state stands are results of
-- the flat machine.
pub sound : EachExchangeIsReached → AllStoodForAreResults
sound law at code kept classes state count m i q f keeps reached uniform reaches l stopped x =
    let way = reached i l in
    let z = law at code kept classes m (λ k. []) (state 0) way.0 (state i) x.0 f uniform reaches way.1 in (
      z.0,
      λ k p found.
          sym (f.running (local_state_of p (consoles_after (λ j. []) (flat_events m (turns z.0)) k)))
          ∙ stopped (x.0.place k) (kept (local_state_of p (consoles_after (λ j. []) (flat_events m (turns z.0)) k)))
          (sym (z.2.each k) ∙ z.3.each k p found),
      exchanged_is x.0.place (result_at (state i)) q (result_at z.1) x.1
          (result_exchanged x.0.place (state i) z.1 z.2)
          ∙ sym (result_kept kept keeps (flat_run m (turns z.0)) (flat_events m (turns z.0)) z.1 z.3),
    )
