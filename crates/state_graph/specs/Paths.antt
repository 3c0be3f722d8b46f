-- Paths from state to state.
use Rattle.std.specs.Prelude.{◌≡◌, ℕ, ◌<◌, ◌≤◌, List, [], ◌∷◌, Contains}
use Rattle.state_graph.specs.Ranks.{successors_at}

module _ (moves : List (List ℕ)) where
  -- Each state of the path is a successor of the one before it, and the path leads to its last state.
  abbrev pub IsPath : (from : ℕ) → (path : List ℕ) → (to : ℕ) → Type 0
  IsPath from [] to = from ≡ to
  IsPath from (next ∷ path) to = Contains (successors_at moves from) next × IsPath next path to

  -- No state before this one has it among its successors.
  abbrev pub HasNoneBefore : (place : ℕ) → Type 0
  HasNoneBefore i = (k : ℕ) → k < i → Contains (successors_at moves k) i → ⊥

  -- This is the first state that has the one at `place` as a successor, and it is before that one.
  pub record IsFirstFrom (from place : ℕ) : Type 0 where
    pub before : from < place
    pub leads : Contains (successors_at moves from) place
    pub first : (k : ℕ) → k < from → Contains (successors_at moves k) place → ⊥

  -- The states are in breadth-first order: each state before a successor of a state, except for the first, is a
  -- successor of that state or of one before it.
  abbrev pub IsBreadthFirst : Type 0
  IsBreadthFirst =
      (i v u : ℕ) → Contains (successors_at moves i) v → 0 < u → u < v →
      (k : ℕ) × (k ≤ i) × Contains (successors_at moves k) u
