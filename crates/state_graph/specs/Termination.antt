-- Whether schedules end, derived from the successors of states.
use Rattle.std.specs.Prelude.{◌≡◌, ℕ, ◌<◌, ◌≤◌, List, length}
use Rattle.state_graph.specs.declared.ranks.Rule.TheVariants as rule
use Rattle.state_graph.specs.declared.termination.Termination.{Termination}
use Rattle.state_graph.specs.declared.termination.Termination.TheVariants as termination_claim
use Rattle.state_graph.specs.Ranks.{no_rank, rank_at, unranked, AreRanks}

module _ (moves : List (List ℕ)) where
  -- Each state has a rank, and all of its successors have lesser ones.
  abbrev pub AllEnd : Type 0
  AllEnd = (ranks : List ℕ) × AreRanks rule.Each moves ranks × ((i : ℕ) → i < length moves → rank_at ranks i < no_rank)

  -- This state has no rank by that rule.
  abbrev pub HasNoEnd : (place : ℕ) → Type 0
  HasNoEnd i = (ranks : List ℕ) × AreRanks rule.Each moves ranks × (i < length moves) × (no_rank ≤ rank_at ranks i)

  -- Each state has a rank, and one of its successors has a lesser one, if it has successors.
  abbrev pub AllReach : Type 0
  AllReach = (ranks : List ℕ) × AreRanks rule.One moves ranks × ((i : ℕ) → i < length moves → rank_at ranks i < no_rank)

  -- This state has no rank by that rule, and neither have others: as many as `states`, with this one.
  abbrev pub ReachesNone : (states place : ℕ) → Type 0
  ReachesNone states i =
      (ranks : List ℕ) × AreRanks rule.One moves ranks × (i < length moves) × (no_rank ≤ rank_at ranks i)
      × (states ≡ unranked ranks)

  -- This is true of the successors of states.
  abbrev pub IsTrueOf : Termination → Type 0
  IsTrueOf termination_claim.Always = AllEnd
  IsTrueOf termination_claim.Possible = ((i : ℕ) × HasNoEnd i) × AllReach
  IsTrueOf (termination_claim.Deadlock states first) = ReachesNone states first
