use Rattle.std.proofs.Common.{ℕ, ◌<◌}
use Rattle.state_graph.specs.Fairness.{IsFairMove}
use Rattle.state_graph.proofs.fairness.is_fair_for.Given as goal

abbrev pub invariant-loop-k : goal.invariant-loop-k
invariant-loop-k l = (j : ℕ) → j < l.k → IsFairMove l.ranks l.helpers l.rank l.helper l.list j
