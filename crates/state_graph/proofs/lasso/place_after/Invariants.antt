use Rattle.std.proofs.Common.{◌≡◌, drop}
use Rattle.state_graph.specs.Lassos.{place_after}
use Rattle.state_graph.proofs.lasso.place_after.Given as goal

-- The moves that are left lead to where all moves lead.
abbrev pub invariant-loop-k : goal.invariant-loop-k
invariant-loop-k l = place_after l.targets l.at (drop l.k-index l.movers) ≡ place_after l.targets l.place l.movers
