-- How the rows that a search finds relate to the first state.
use Rattle.std.specs.Prelude.{◌≡◌, ℕ, ◌<◌, List, [], length, slice_index_or}
use Rattle.state_store.specs.local_reduction.Closing.{MacroState}
use Rattle.state_graph.specs.Paths.{IsBreadthFirst}
use Rattle.state_graph.specs.Search.{AreSuccessors, AreReached}
use Rattle.state_store.specs.local_reduction.Forgetting.{kept_by}
use Rattle.state_store.specs.declared.state_tables.Extent.{Extent}
use Rattle.state_store.specs.StateTables.{TableLists, setting_at, IsRow}
use Rattle.state_search.specs.Search.{state_at}

abbrev pub AreRows : Extent → TableLists → List (List ℕ) → Type 0
AreRows e t rows = (i : ℕ) → i < length rows → IsRow e t (slice_index_or rows i [])

-- No two of the first `count` states are equal.
abbrev pub AreDifferentStates : (count : ℕ) → (state : ℕ → MacroState) → Type 0
AreDifferentStates count state = (i j : ℕ) → i < count → j < count → state i ≡ state j → i ≡ j

-- The rows mean states that moves reach from a first one, up to exchanges. No two mean the same state.
pub record AreSome (e : Extent) (code : List ℕ) (classes : List ℕ) (t : TableLists) (rows : List (List ℕ))
    (first : MacroState) : Type 0 where
  pub are_rows : AreRows e t rows
  pub begins : state_at e t rows 0 ≡ first
  pub reached : AreReached (setting_at e) code (kept_by t.live) classes (state_at e t rows) (length rows)
  pub different : AreDifferentStates (length rows) (state_at e t rows)

-- They are all such states, with their successors, in breadth-first order.
pub record AreFound (e : Extent) (code : List ℕ) (classes : List ℕ) (t : TableLists) (rows moves : List (List ℕ))
    (first : MacroState) : Type 0 where
  pub some : AreSome e code classes t rows first
  pub successors : AreSuccessors (setting_at e) code (kept_by t.live) classes (state_at e t rows) (length rows) moves
  pub breadth : IsBreadthFirst moves
