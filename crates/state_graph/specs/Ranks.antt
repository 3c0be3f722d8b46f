-- Ranks of states, by the states to which their moves lead. A state is its place in a list, and has a list of
-- successors.
use Rattle.std.specs.Prelude.{◌≡◌, ◌⊎◌, ℕ, ◌+◌, ◌<◌, ◌≤◌, nat_lt, Bool, true, false, List, [], ◌∷◌, Contains, length}
use Rattle.std.specs.Prelude.{slice_index_or, if◌then◌else◌}
use Rattle.state_graph.specs.declared.ranks.Rule.{Rule}
use Rattle.state_graph.specs.declared.ranks.Rule.TheVariants as rule

-- the value for no rank; no list has more states
abbrev pub no_rank : ℕ
no_rank = 4294967295

-- the successors of the state at a place
abbrev pub successors_at : (moves : List (List ℕ)) → (place : ℕ) → List ℕ
successors_at moves i = slice_index_or moves i []

-- the rank of the state at a place, which is less than `no_rank` if it has one
abbrev pub rank_at : (ranks : List ℕ) → (place : ℕ) → ℕ
rank_at ranks i = slice_index_or ranks i no_rank

-- how many states have no rank
abbrev pub unranked : List ℕ → ℕ
unranked [] = 0
unranked (r ∷ ranks) = (if nat_lt r no_rank then 0 else 1) + unranked ranks

module _ (successors ranks : List ℕ) (rank : ℕ) where
  -- Each successor has a lesser rank.
  abbrev pub AreBelow : Type 0
  AreBelow = (t : ℕ) → Contains successors t → rank_at ranks t < rank

  -- Some successor has a lesser rank.
  abbrev pub HasBelow : Type 0
  HasBelow = (t : ℕ) × Contains successors t × (rank_at ranks t < rank)

-- A state with these successors can have this rank.
abbrev pub IsReady : Rule → (successors ranks : List ℕ) → (rank : ℕ) → Type 0
IsReady rule.Each successors ranks rank = AreBelow successors ranks rank
IsReady rule.One successors ranks rank = (successors ≡ []) ⊎ HasBelow successors ranks rank

module _ (r : Rule) (moves : List (List ℕ)) where
  -- The state at a place can have this rank.
  abbrev pub IsReadyAt : (ranks : List ℕ) → (place rank : ℕ) → Type 0
  IsReadyAt ranks i rank = IsReady r (successors_at moves i) ranks rank

  -- Each rank is right by the rule, and no state without a rank can have one.
  pub record AreRanks (ranks : List ℕ) : Type 0 where
    pub all : length ranks ≡ length moves
    pub sound : (i : ℕ) → i < length moves → rank_at ranks i < no_rank → IsReadyAt ranks i (rank_at ranks i)
    pub whole : (i : ℕ) → i < length moves → no_rank ≤ rank_at ranks i → IsReadyAt ranks i no_rank → ⊥

  -- The ranks so far are right by the rule, and all are less than the next.
  pub record AreRanksSoFar (ranks : List ℕ) (next : ℕ) : Type 0 where
    pub all : length ranks ≡ length moves
    pub sound : (i : ℕ) → i < length moves → rank_at ranks i < no_rank → IsReadyAt ranks i (rank_at ranks i)
    pub less : (i : ℕ) → rank_at ranks i < no_rank → rank_at ranks i < next
    pub room : next + unranked ranks ≤ length moves

  -- The states from a place on were looked at. If one was ranked, fewer have no rank; otherwise none is ready.
  pub record IsPassed (old new : List ℕ) (from : ℕ) (is_found : Bool) : Type 0 where
    pub fewer : is_found ≡ true → unranked new < unranked old
    pub same : is_found ≡ false → new ≡ old
    pub none : is_found ≡ false → (i : ℕ) → from ≤ i → i < length moves → no_rank ≤ rank_at new i →
        IsReadyAt new i no_rank → ⊥
