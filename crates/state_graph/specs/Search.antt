-- States that are found up to exchanges, and the states to which their moves lead. A found state is a number below a
-- count, and stands for a macro state.
use Rattle.std.specs.Prelude.{◌≡◌, ◌⊎◌, ℕ, ◌<◌, ◌≤◌, List, [], ◌∷◌, Contains, length}
use Rattle.local_reduction.specs.flat_machine.declared.setting.Setting.{Setting}
use Rattle.local_reduction.specs.LocalStates.{LocalState}
use Rattle.local_reduction.specs.Closing.{MacroState, MayMove, HasSpinner}
use Rattle.local_reduction.specs.Exchanging.{IsMoveUpTo, IsWayUpTo}
use Rattle.state_graph.specs.Ranks.{no_rank, successors_at}

module _ (at : ℕ → Setting) (code : List ℕ) (kept : LocalState → LocalState) (classes : List ℕ)
    (state : ℕ → MacroState) (count : ℕ) where
  -- The successors listed for each state are those to which its moves lead, up to exchanges: each listed one is such a
  -- state, and each move leads to one that is listed. A state in which a processor spins has itself as its only
  -- successor.
  pub record AreSuccessors (moves : List (List ℕ)) : Type 0 where
    pub filled : 0 < count
    pub all : length moves ≡ count
    pub few : count ≤ no_rank
    pub spins : (i : ℕ) → i < count → HasSpinner at code (state i) → successors_at moves i ≡ i ∷ []
    pub sound : (i t : ℕ) → i < count → Contains (successors_at moves i) t →
        (t < count)
        × (HasSpinner at code (state i) ⊎ ((k : ℕ) × IsMoveUpTo at code kept classes (state i) k (state t)))
    pub complete : (i k : ℕ) → i < count → MayMove at code (state i) k →
        HasSpinner at code (state i)
        ⊎ ((t : ℕ) × Contains (successors_at moves i) t × IsMoveUpTo at code kept classes (state i) k (state t))

  -- Each state is reached from the first, up to exchanges.
  abbrev pub AreReached : Type 0
  AreReached =
      (i : ℕ) → i < count → (way : List (ℕ × MacroState)) × IsWayUpTo at code kept classes (state 0) way (state i)
