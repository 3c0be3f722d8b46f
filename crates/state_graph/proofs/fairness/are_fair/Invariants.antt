use Rattle.std.proofs.Common.{ℕ, ◌<◌}
use Rattle.state_graph.specs.Fairness.{IsFairFor, helper_at}
use Rattle.state_graph.specs.Ranks.{rank_at, successors_at}
use Rattle.state_graph.proofs.fairness.are_fair.Given as goal

abbrev pub invariant-loop-at : goal.invariant-loop-at
invariant-loop-at l =
    (j : ℕ) → j < l.at → IsFairFor l.ranks l.helpers (rank_at l.ranks j) (helper_at l.helpers j) (successors_at l.targets j)
