use Rattle.std.proofs.Common.{◌≡◌, ℕ, ◌<◌}
use Rattle.state_graph.specs.Ranks.{no_rank, rank_at}
use Rattle.state_graph.proofs.termination.first_unranked.Given as goal

abbrev pub invariant-loop-rank : goal.invariant-loop-rank
invariant-loop-rank l = record {
  place : l.place ≡ l.rank-index;
  ranked : (i : ℕ) → i < l.rank-index → rank_at l.ranks i < no_rank;
}
