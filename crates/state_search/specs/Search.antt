-- The progress of a search.
use Rattle.std.specs.Prelude.{◌≡◌, ◌⊎◌, ℕ, ◌<◌, ◌≤◌, Bool, List, [], ◌∷◌, Option, Some, None, Contains, length}
use Rattle.std.specs.Prelude.{slice_index, slice_index_or}
use Rattle.state_store.specs.local_reduction.Closing.{MacroState}
use Rattle.state_store.specs.local_reduction.Exchanging.{AreAlike, IsMoveUpTo, IsWayUpTo}
use Rattle.state_store.specs.local_reduction.Forgetting.{kept_by}
use Rattle.state_graph.specs.Paths.{IsBreadthFirst}
use Rattle.state_graph.specs.Ranks.{successors_at}
use Rattle.state_store.specs.declared.state_tables.Extent.{Extent}
use Rattle.state_store.specs.Moves.{CanMove, Spinning}
use Rattle.state_store.specs.StateTables.{TableLists, setting_at, means, IsRow}

-- the state of the row at a place
abbrev pub state_at : Extent → TableLists → (rows : List (List ℕ)) → ℕ → MacroState
state_at e t rows i = means e t (slice_index_or rows i [])

-- Each row but the first is a successor of some row.
abbrev pub AreAllFound : (rows moves : List (List ℕ)) → Type 0
AreAllFound rows moves = (v : ℕ) → 0 < v → v < length rows → (k : ℕ) × Contains (successors_at moves k) v

-- The row is at this place of the new list: it was in the old list, or was appended to it.
pub record IsPlaced (old : List (List ℕ)) (row : List ℕ) (new : List (List ℕ)) (place : ℕ) : Type 0 where
  pub longer : length old ≤ length new
  pub same : (i : ℕ) → i < length old → slice_index_or new i [] ≡ slice_index_or old i []
  pub others : (i : ℕ) → i < length new → (i < length old) ⊎ (i ≡ place)
  pub within : place < length new
  pub is : slice_index_or new place [] ≡ row

-- ---- classes

-- Processors of one class have equal numbers in the row.
abbrev pub AreClassesOf : Extent → (classes row : List ℕ) → Type 0
AreClassesOf e classes row =
    (j k : ℕ) → j < e.processors → k < e.processors → slice_index classes j ≡ slice_index classes k →
    slice_index row j ≡ slice_index row k

-- Processor q is before p, of the same class, and has the same number in the row.
pub record IsLike (row classes : List ℕ) (p q : ℕ) : Type 0 where
  pub before : q < p
  pub alike : AreAlike classes q p
  pub same : slice_index row q ≡ slice_index row p

-- ---- moves

module _ (e : Extent) (code : List ℕ) (classes : List ℕ) where
  -- A move of a processor, or of one like it, leads from a state to an exchange of another.
  abbrev pub Moves : (live : List (List Bool)) → MacroState → (processor : ℕ) → MacroState → Type 0
  Moves live s k t = IsMoveUpTo (setting_at e) code (kept_by live) classes s k t

  -- Some such moves, one after another, lead from one state to another.
  abbrev pub IsReached : (live : List (List Bool)) → MacroState → MacroState → Type 0
  IsReached live s t = (way : List (ℕ × MacroState)) × IsWayUpTo (setting_at e) code (kept_by live) classes s way t

  -- A lookup of a processor's move gives a row to which it leads up to exchanges, or None if there is no move.
  abbrev pub IsNextUpTo : TableLists → MacroState → (processor : ℕ) → Option (List ℕ) → Type 0
  IsNextUpTo t s k None = CanMove e code s k → ⊥
  IsNextUpTo t s k (Some row) = IsRow e t row × Moves t.live s k (means e t row)

  -- ---- successors

  module _ (t : TableLists) (rows : List (List ℕ)) where
    -- The row at a place is a successor of a state: a move leads to it, or a processor spins.
    abbrev pub IsSuccessor : MacroState → (place : ℕ) → Type 0
    IsSuccessor s v = (v < length rows) × (Spinning e code s ⊎ ((k : ℕ) × Moves t.live s k (state_at e t rows v)))

    -- If the processor has a move, and no processor spins, the move leads to a row at one of these places.
    abbrev pub HasSuccessor : MacroState → (successors : List ℕ) → (processor : ℕ) → Type 0
    HasSuccessor s successors k =
        CanMove e code s k →
        Spinning e code s
        ⊎ ((v : ℕ) × Contains successors v × (v < length rows) × Moves t.live s k (state_at e t rows v))

    -- All rows mean states reached from the first, and the successors of the first `done` rows are noted.
    pub record Searched (moves : List (List ℕ)) (first : MacroState) (done : ℕ) : Type 0 where
      pub are_rows : (i : ℕ) → i < length rows → IsRow e t (slice_index_or rows i [])
      pub reached : (i : ℕ) → i < length rows → IsReached t.live first (state_at e t rows i)
      pub filled : 0 < length rows
      pub begins : state_at e t rows 0 ≡ first
      pub wide : (i : ℕ) → i < length rows → length (slice_index_or rows i []) ≡ length (slice_index_or rows 0 [])
      pub within : done ≤ length rows
      pub noted : length moves ≡ done
      pub spins : (i : ℕ) → i < done → Spinning e code (state_at e t rows i) → successors_at moves i ≡ i ∷ []
      pub sound : (i v : ℕ) → i < done → Contains (successors_at moves i) v → IsSuccessor (state_at e t rows i) v
      pub complete : (i k : ℕ) → i < done → k < e.processors →
          HasSuccessor (state_at e t rows i) (successors_at moves i) k
      pub breadth : IsBreadthFirst moves

    -- In addition, these are the successors of the next row by moves of the first `processors` processors.
    pub record Expanded (moves : List (List ℕ)) (first : MacroState) (successors : List ℕ)
        (done processors : ℕ) : Type 0 where
      pub searched : Searched moves first done
      pub more : done < length rows
      pub sound : (v : ℕ) → Contains successors v → IsSuccessor (state_at e t rows done) v
      pub complete : (k : ℕ) → k < processors → HasSuccessor (state_at e t rows done) successors k
      pub found : (v : ℕ) → 0 < v → v < length rows →
          Contains successors v ⊎ ((k : ℕ) × Contains (successors_at moves k) v)

    -- The search has found these rows, and noted the successors of some.
    pub record AreRowsOfSearch (moves : List (List ℕ)) (first : MacroState) : Type 0 where
      pub done : ℕ
      pub searched : Searched moves first done
