use Rattle.std.proofs.Common.{ℕ, ◌<◌}
use Rattle.state_search.specs.Search.{state_at}
use Rattle.state_search.specs.state_store.Moves.{Spinning}
use Rattle.property_search.proofs.broken.some_spins.Given as goal

abbrev pub invariant-loop-row : goal.invariant-loop-row
invariant-loop-row g l = (i : ℕ) → i < l.row-index → Spinning l.extent l.code (state_at l.extent l.state_tables l.rows i) → ⊥
