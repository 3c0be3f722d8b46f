-- If a machine has the processors and the words of a flat machine, both have the same result.
use Rattle.std.proofs.Common.{◌≡◌, ◌⊎◌, inl, inr, ℕ, ◌<◌, ◌≤◌, ◌^◌, cond, eqb, eq-eqb, ne_eqb, zero, suc, List}
use Rattle.std.proofs.Common.{[], ◌∷◌, ◌++◌, Some, length, map, refl, sym, ap, ap₂, subst, ◌∙◌, arith}
use Rattle.std.specs.Prelude.{slice_get, slice_index, slice_index_or}
use Rattle.std.specs.List.{range_with_len}
use Rattle.std.proofs.lemmas.Bool.{cases_lt, cases_eq}
use Rattle.std.proofs.lemmas.List.FromFn.{length-map-range_with_len, get_or-map-range_with_len}
use mathlib.Core.Path.{fun_ext}
use Rattle.flat_machine.specs.declared.config.Config.{Config}
use Rattle.flat_machine.specs.declared.event.Event.{Event}
use Rattle.flat_machine.specs.State.{FlatState, Processor, is_running}
use Rattle.machine_steps.specs.messages.Places.{put}
use Rattle.machine_steps.specs.machine_theory.Theory as theory
use Rattle.machine_steps.specs.machine_theory.Processors.{ObservedCore, no_processor}
use Rattle.machine_steps.specs.machine_theory.Flatness.{with_events}
use Rattle.local_reduction.specs.LocalStates.{printed_after, console_after, consoles_after}
use Rattle.local_reduction.specs.Closing.{HasStopped}
use Rattle.local_reduction.specs.Results.{result_with, result_of}
use Rattle.exploration.specs.Results.{printed_by, machine_result, NoneRuns}

-- ---- consoles

printed_more : (console : List ℕ) (events : List Event) (e : Event) → printed_by console (events ++ e ∷ []) ≡ printed_after (printed_by console events) e
printed_more console [] e = refl
printed_more console (x ∷ events) e = printed_more (printed_after console x) events e

-- The events of a processor print what is on its console.
pub consoles_same : (events : List (ℕ × Event)) (shown : ℕ → List Event) (console : List ℕ) (k : ℕ) → printed_by [] (shown k) ≡ console →
    printed_by [] (with_events shown events k) ≡ console_after k console events
unfolding put
consoles_same [] shown console k e = e
consoles_same ((p, x) ∷ events) shown console k e =
    consoles_same events (put shown p (shown p ++ x ∷ [])) (cond (eqb p k) (printed_after console x) console) k (by (cases_eq k p))
  where
    by : (k ≡ p) ⊎ (k ≡ p → ⊥) → printed_by [] (put shown p (shown p ++ x ∷ []) k) ≡ cond (eqb p k) (printed_after console x) console
    by (inl same) =
        ap (λ b. printed_by [] (cond b (shown p ++ x ∷ []) (shown k))) (eq-eqb k p same)
        ∙ ap (λ j. printed_by [] (shown j ++ x ∷ [])) (sym same) ∙ printed_more [] (shown k) x ∙ ap (λ c. printed_after c x) e
        ∙ sym (ap (λ b. cond b (printed_after console x) console) (eq-eqb p k (sym same)))
    by (inr other) =
        ap (λ b. printed_by [] (cond b (shown p ++ x ∷ []) (shown k))) (ne_eqb k p other) ∙ e
        ∙ sym (ap (λ b. cond b (printed_after console x) console) (ne_eqb p k (λ f. other (sym f))))

-- ---- lists

past_end : {X : Type 0} (xs : List X) (i : ℕ) (d : X) → length xs ≤ i → slice_index_or xs i d ≡ d
past_end [] i d l = refl
past_end (x ∷ xs) zero d l = absurd (omega (arith, l))
past_end (x ∷ xs) (suc i) d l = past_end xs i d (omega (arith, l))

same_list : {X : Type 0} (xs ys : List X) (d : X) → length xs ≡ length ys → ((i : ℕ) → slice_index_or xs i d ≡ slice_index_or ys i d) → xs ≡ ys
same_list [] [] d n e = refl
same_list [] (y ∷ ys) d n e = absurd (omega (arith, n))
same_list (x ∷ xs) [] d n e = absurd (omega (arith, n))
same_list (x ∷ xs) (y ∷ ys) d n e = ap₂ (λ z zs. z ∷ zs) (e 0) (same_list xs ys d (omega (arith, n)) (λ i. e (suc i)))

-- If a list has an element at a place, the place is within the list, and reading there gives the element.
pub found_at : {X : Type 0} (xs : List X) (k : ℕ) (x d : X) → slice_get xs k ≡ Some x → (k < length xs) × (slice_index_or xs k d ≡ x)
found_at [] k x d e = absurd (cc)
found_at (y ∷ ys) zero x d e = (omega arith, (let same : y ≡ x = cc in same))
found_at (y ∷ ys) (suc k) x d e = let h = found_at ys k x d e in let less = h.0 in (omega (arith, less), h.1)

pub found_there : {X : Type 0} (xs : List X) (k : ℕ) → k < length xs → (x : X) × (slice_get xs k ≡ Some x)
found_there [] k less = absurd (omega (arith, less))
found_there (y ∷ ys) zero less = (y, refl)
found_there (y ∷ ys) (suc k) less = found_there ys k (omega (arith, less))

-- ---- results

-- The machine has the processors, the events and the words of the flat machine.
pub record Matches (c : Config) (N : theory.Machine ObservedCore) (F : FlatState) (events : List (ℕ × Event)) : Type 0 where
  -- The flat machine has as many processors as the machine.
  pub count : length F.processors ≡ 2 ^ c.k
  -- The flat machine has as many shared words as the machine.
  pub size : length F.shared ≡ c.shared_words
  -- Each core is in the state of the flat machine's processor, and has shown its events.
  pub cores : (p : ℕ) → N.core p ≡ record { state = slice_index_or F.processors p no_processor; events = with_events (λ j. []) events p }
  -- Each word of memory is that of the flat machine.
  pub words : (i : ℕ) → N.mem i ≡ slice_index F.shared i

module _ (c : Config) (N : theory.Machine ObservedCore) (F : FlatState) (events : List (ℕ × Event)) (h : Matches c N F events) where
  words_same : map N.mem (range_with_len 0 c.shared_words) ≡ F.shared
  words_same = same_list (map N.mem (range_with_len 0 c.shared_words)) F.shared 0 (length-map-range_with_len N.mem 0 c.shared_words ∙ sym h.size)
      (λ i. at i (cases_lt i c.shared_words))
    where
      at : (i : ℕ) → (i < c.shared_words) ⊎ (c.shared_words ≤ i) →
          slice_index_or (map N.mem (range_with_len 0 c.shared_words)) i 0 ≡ slice_index_or F.shared i 0
      at i (inl within) = get_or-map-range_with_len N.mem 0 c.shared_words i i 0 within (omega arith) ∙ h.words i
      at i (inr past) =
          past_end (map N.mem (range_with_len 0 c.shared_words)) i 0 (subst (λ n. n ≤ i) (sym (length-map-range_with_len N.mem 0 c.shared_words)) past)
          ∙ sym (past_end F.shared i 0 (subst (λ n. n ≤ i) (sym h.size) past))

  -- A machine that matches a flat machine has the same result.
  pub results_same : machine_result c N ≡ result_of F events
  results_same =
      let each : (λ k. result_with (N.core k).state (printed_by [] (N.core k).events))
      ≡ (λ k. result_with (slice_index_or F.processors k no_processor) (consoles_after (λ j. []) events k)) =
      fun_ext (λ k. ap (λ (g : ObservedCore). result_with g.state (printed_by [] g.events)) (h.cores k)
      ∙ ap (result_with (slice_index_or F.processors k no_processor)) (consoles_same events (λ j. []) [] k refl)) in
      let processors = ap (λ f. map f (range_with_len 0 (2 ^ c.k))) each
      ∙ ap (λ n. map (λ k. result_with (slice_index_or F.processors k no_processor) (consoles_after (λ j. []) events k)) (range_with_len 0 n)) (sym h.count) in
      λ i. record { processors = processors i; words = words_same i }

  -- If no processor of the machine runs, none of the flat machine does.
  pub stopped_flat : NoneRuns c N → HasStopped F
  stopped_flat none k p there =
      let found = found_at F.processors k p no_processor there in
      ap (λ (q : Processor). is_running q.status) (sym found.1) ∙ sym (ap (λ (g : ObservedCore). is_running g.state.status) (h.cores k))
      ∙ none k (subst (λ n. k < n) h.count found.0)

  -- If no processor of the flat machine runs, none of the machine does.
  pub none_runs : HasStopped F → NoneRuns c N
  none_runs stopped k within =
      let there = found_there F.processors k (subst (λ n. k < n) (sym h.count) within) in
      ap (λ (g : ObservedCore). is_running g.state.status) (h.cores k)
      ∙ ap (λ (q : Processor). is_running q.status) (found_at F.processors k there.0 no_processor there.1).1
      ∙ stopped k there.0 there.1
