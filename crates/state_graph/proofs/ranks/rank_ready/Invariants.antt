use Rattle.std.proofs.Common.{◌≤◌, length}
use Rattle.state_graph.specs.Ranks.{AreRanksSoFar, IsPassed}
use Rattle.state_graph.proofs.ranks.rank_ready.Given as goal

abbrev pub invariant-loop-at : goal.invariant-loop-at
invariant-loop-at l = record {
  within : l.at ≤ length l.moves;
  so_far : AreRanksSoFar l.rule l.moves l.ranks.items l.next;
  passed : IsPassed l.rule l.moves l.fn.ranks.items l.ranks.items l.at l.is_found;
}

abbrev pub decreases-loop-at : goal.decreases-loop-at
decreases-loop-at l = l.at
