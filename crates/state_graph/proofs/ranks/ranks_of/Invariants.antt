use Rattle.state_graph.specs.Ranks.{AreRanksSoFar, unranked}
use Rattle.state_graph.proofs.ranks.ranks_of.Given as goal

abbrev pub invariant-loop-rule : goal.invariant-loop-rule
invariant-loop-rule l = AreRanksSoFar l.rule l.moves l.ranks.items l.next

abbrev pub decreases-loop-rule : goal.decreases-loop-rule
decreases-loop-rule l = unranked l.ranks.items
