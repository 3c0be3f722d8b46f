-- A local state makes the moves of what is kept of it.
use Rattle.std.proofs.Common.{◌≡◌, ℕ, true, List, Some, refl, sym, ap, subst, ◌∙◌}
use Rattle.std.specs.Prelude.{slice_get, slice_index}
use Rattle.flat_machine.specs.declared.setting.Setting.{Setting}
use Rattle.flat_machine.specs.declared.event.Retired.{Retired}
use Rattle.flat_machine.specs.State.{Processor, is_running}
use Rattle.flat_machine.specs.Turns.{Turn, Retires, Reaches, Stops, turn_of}
use Rattle.local_reduction.specs.LocalStates.{LocalState, retire, alone, IsAtReference}
use Rattle.local_reduction.specs.Closing.{IsAlike, IsForgetful, MacroState, gone, IsMove}
use Rattle.local_reduction.proofs.OneTurn.{alone_alike, at_reference_alike}

-- If a state has what is kept of a processor that refers to a word and then runs alone to its next reference, there is a move of that
-- state.
pub moved : (at : ℕ → Setting) (code : List ℕ) (kept : LocalState → LocalState) (s : MacroState) (k : ℕ) (a : LocalState) (word : ℕ) (change : ℕ → ℕ)
    (after : ℕ → Processor × Retired) (count : ℕ) → IsForgetful at code kept → slice_get s.local_states k ≡ Some (kept a) →
    is_running a.processor.status ≡ true → turn_of (at k) code a.processor ≡ Reaches word change after →
    IsAtReference (at k) code (alone count (at k) code (retire a (after (slice_index s.shared word)))).processor →
    IsMove at code kept s k
    (gone s k (kept (alone count (at k) code (retire a (after (slice_index s.shared word))))) word (change (slice_index s.shared word)))
moved at code kept s k a word change after count f there runs e at_reference =
    by (turn_of (at k) code (kept a).processor) refl
    (subst (IsAlike kept (kept a) a (turn_of (at k) code (kept a).processor)) e (f.turn k a runs))
  where
    by : (x : Turn) → turn_of (at k) code (kept a).processor ≡ x → IsAlike kept (kept a) a x (Reaches word change after) →
        IsMove at code kept s k
        (gone s k (kept (alone count (at k) code (retire a (after (slice_index s.shared word))))) word (change (slice_index s.shared word)))
    by (Retires p r) is alike = absurd alike
    by (Stops c) is alike = absurd alike
    by (Reaches v c g) is alike =
        let same : kept (alone count (at k) code (retire a (after (slice_index s.shared word))))
        ≡ kept (alone count (at k) code (retire (kept a) (g (slice_index s.shared word)))) =
        sym (alone_alike at code kept f count k (retire (kept a) (g (slice_index s.shared word))) (retire a (after (slice_index s.shared word)))
        (alike.2 (slice_index s.shared word))) in
        record {
          local_state = kept a;
          there = there;
          runs = f.running a ∙ runs;
          word = word;
          change = change;
          after = g;
          turn = is ∙ (λ i. Reaches (alike.0 i) (alike.1 i) g);
          count = count;
          at_reference = at_reference_alike at code kept f k (alone count (at k) code (retire a (after (slice_index s.shared word))))
              (alone count (at k) code (retire (kept a) (g (slice_index s.shared word)))) same at_reference;
          leaves = ap (λ z. gone s k z word (change (slice_index s.shared word))) same;
        }
