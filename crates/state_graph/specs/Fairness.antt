-- Ranks by which fair schedules end. A state is its place in a list, and has a list of targets: for each processor, the
-- place of the state to which its move leads.
use Rattle.std.specs.Prelude.{◌≡◌, ◌⊎◌, ℕ, ◌<◌, List, length, slice_index_or}
use Rattle.state_graph.specs.Ranks.{rank_at, successors_at}

-- the target of a processor that has no move
abbrev pub no_move : ℕ
no_move = 4294967295

-- the target of a processor in a list
abbrev pub target_in : List ℕ → (processor : ℕ) → ℕ
target_in list k = slice_index_or list k no_move

-- the target of a processor in the state at a place
abbrev pub target_at : (targets : List (List ℕ)) → (place processor : ℕ) → ℕ
target_at targets i k = target_in (successors_at targets i) k

-- the helper of the state at a place
abbrev pub helper_at : (helpers : List ℕ) → (place : ℕ) → ℕ
helper_at helpers i = slice_index_or helpers i 0

module _ (ranks helpers : List ℕ) (rank helper : ℕ) where
  -- A move of processor k from a state of this rank and helper may lead to the state at `place`: to one of lesser rank
  -- or, unless k is the helper, to one of the same rank with the same helper.
  abbrev pub MayLead : (k place : ℕ) → Type 0
  MayLead k t =
      (rank_at ranks t < rank) ⊎ ((rank_at ranks t ≡ rank) × (helper_at helpers t ≡ helper) × (k ≡ helper → ⊥))

  -- If processor k has a move, the helper has one, and the move may lead where it does.
  abbrev pub IsFairMove : (list : List ℕ) → (k : ℕ) → Type 0
  IsFairMove list k = target_in list k < no_move → (target_in list helper < no_move) × MayLead k (target_in list k)

  -- A state with these targets may have this rank and helper.
  abbrev pub IsFairFor : (list : List ℕ) → Type 0
  IsFairFor list = (k : ℕ) → IsFairMove list k

-- Each state may have its rank and helper.
abbrev pub AreFairRanks : (targets : List (List ℕ)) → (ranks helpers : List ℕ) → Type 0
AreFairRanks targets ranks helpers =
    (i : ℕ) → i < length targets →
    IsFairFor ranks helpers (rank_at ranks i) (helper_at helpers i) (successors_at targets i)
