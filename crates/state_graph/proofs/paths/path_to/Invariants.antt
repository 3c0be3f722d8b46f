use Rattle.std.proofs.Common.{◌≡◌, ◌+◌, ℕ, length, reverse}
use Rattle.state_graph.specs.Paths.{IsBreadthFirst, IsPath}
use Rattle.state_graph.proofs.Shortest.{IsNear}
use Rattle.state_graph.proofs.paths.path_to.Given as goal

abbrev pub invariant-loop-before : goal.invariant-loop-before
invariant-loop-before l = record {
  path : IsPath l.moves l.at (reverse l.path.items) l.place;
  short : IsBreadthFirst l.moves → (most : ℕ) → IsNear l.moves l.place most →
      (less : ℕ) × (less + length l.path.items ≡ most) × IsNear l.moves l.at less;
}

abbrev pub decreases-loop-before : goal.decreases-loop-before
decreases-loop-before l = l.at
