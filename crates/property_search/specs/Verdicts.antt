-- Whether a property holds of all states between references.
use Rattle.std.specs.Prelude.{◌≡◌, ◌⊎◌, ℕ, ◌<◌, Bool, true, false, List, length}
use Rattle.local_reduction.specs.flat_machine.State.{FlatState, setting_of}
use Rattle.local_reduction.specs.flat_machine.Flat.{flat_run}
use Rattle.local_reduction.specs.LocalStates.{turns}
use Rattle.local_reduction.specs.Closing.{AreAtReference}
use Rattle.local_reduction.specs.Results.{result_at}
use Rattle.state_conditions.specs.declared.condition.Comparison.{Comparison}
use Rattle.state_conditions.specs.declared.property.Kind.{Kind}
use Rattle.state_conditions.specs.declared.property.Kind.TheVariants.{Finally}
use Rattle.state_conditions.specs.Results.{breaks_result}
use Rattle.state_graph.specs.Laws.{IsBetweenReferences, SomeSpins, left_after}
use Rattle.state_search.specs.Search.{state_at}
use Rattle.state_search.specs.state_store.declared.state_tables.Extent.{Extent}
use Rattle.state_search.specs.state_store.Moves.{Spinning}
use Rattle.state_search.specs.state_store.StateTables.{TableLists}
use Rattle.property_search.specs.declared.judging.Verdict.{Verdict}
use Rattle.property_search.specs.declared.judging.Verdict.TheVariants as verdict

-- The verdict is true of the flat machine: no state between references that turns lead to breaks the property; one
-- does, in which each processor has stopped, is about to refer to a word, or spins; or a processor spins after some
-- turns.
abbrev pub IsVerdict : FlatState → Kind → (condition : List (List Comparison)) → Verdict → Type 0
IsVerdict m kind condition verdict.Holds =
    (order : List ℕ) → IsBetweenReferences (flat_run m (turns order)) →
    breaks_result kind condition (left_after m order) ≡ false
IsVerdict m kind condition verdict.Broken =
    (order : List ℕ) × (breaks_result kind condition (left_after m order) ≡ true)
    × AreAtReference (setting_of (flat_run m (turns order))) (flat_run m (turns order)).code (flat_run m (turns order))
IsVerdict m kind condition verdict.Unknown = (order : List ℕ) × SomeSpins (flat_run m (turns order))

-- The verdict is true of the states of these rows.
module _ (e : Extent) (code : List ℕ) (t : TableLists) (rows : List (List ℕ)) (kind : Kind)
    (condition : List (List Comparison)) where
  abbrev pub is_broken_at : (place : ℕ) → Bool
  is_broken_at i = breaks_result kind condition (result_at (state_at e t rows i))

  abbrev pub IsFoundVerdict : Verdict → Type 0
  IsFoundVerdict verdict.Holds =
      ((i : ℕ) → i < length rows → is_broken_at i ≡ false)
      × ((kind ≡ Finally) ⊎ ((i : ℕ) → i < length rows → Spinning e code (state_at e t rows i) → ⊥))
  IsFoundVerdict verdict.Broken = (i : ℕ) × (i < length rows) × (is_broken_at i ≡ true)
  IsFoundVerdict verdict.Unknown = (i : ℕ) × (i < length rows) × Spinning e code (state_at e t rows i)
