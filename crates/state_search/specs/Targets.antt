-- The targets of the rows of a search: to which row the move of each processor leads, with no processors exchanged.
use Rattle.std.specs.Prelude.{◌≡◌, ℕ, ◌<◌, ◌≤◌, List, length}
use Rattle.state_store.specs.local_reduction.Closing.{MacroState}
use Rattle.state_store.specs.local_reduction.Exchanging.{IsMoveOfAny}
use Rattle.state_store.specs.local_reduction.Forgetting.{kept_by}
use Rattle.state_graph.specs.Fairness.{no_move, target_in}
use Rattle.state_graph.specs.Ranks.{successors_at}
use Rattle.state_store.specs.declared.state_tables.Extent.{Extent}
use Rattle.state_store.specs.Moves.{CanMove, Spinning}
use Rattle.state_store.specs.StateTables.{TableLists, setting_at}
use Rattle.state_search.specs.Search.{state_at}

module _ (e : Extent) (code classes : List ℕ) (t : TableLists) (rows : List (List ℕ)) where
  -- The target of processor k in a state: the place of the row to which its move leads, or `no_move` if it has no move.
  pub record IsTarget (s : MacroState) (k target : ℕ) : Type 0 where
    pub none : no_move ≤ target → CanMove e code s k → ⊥
    pub within : target < no_move → target < length rows
    pub leads : target < no_move →
        IsMoveOfAny (setting_at e) code (kept_by t.live) classes s k (state_at e t rows target)

  -- These are the targets of the first `count` processors.
  pub record AreTargetsOf (s : MacroState) (list : List ℕ) (count : ℕ) : Type 0 where
    pub all : length list ≡ count
    pub each : (k : ℕ) → k < count → IsTarget s k (target_in list k)

  -- These are the targets of the first `count` rows, in which no processor spins.
  pub record AreTargets (targets : List (List ℕ)) (count : ℕ) : Type 0 where
    pub all : length targets ≡ count
    pub calm : (i : ℕ) → i < count → Spinning e code (state_at e t rows i) → ⊥
    pub each : (i : ℕ) → i < count → AreTargetsOf (state_at e t rows i) (successors_at targets i) e.processors
