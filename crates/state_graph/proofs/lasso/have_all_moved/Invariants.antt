use Rattle.std.proofs.Common.{ℕ, ◌<◌, Contains}
use Rattle.state_graph.specs.Fairness.{no_move, target_in}
use Rattle.state_graph.proofs.lasso.have_all_moved.Given as goal

abbrev pub invariant-loop-k : goal.invariant-loop-k
invariant-loop-k l = (j : ℕ) → j < l.k → target_in l.list j < no_move → Contains l.movers j
