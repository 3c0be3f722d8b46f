use Rattle.std.proofs.Common.{ℕ, ◌<◌}
use Rattle.std.specs.Prelude.{slice_index}
use Rattle.state_store.specs.Placed.{IsGoingOn}
use Rattle.state_store.specs.StateTables.{placed_at}
use Rattle.state_store.proofs.state_tables.StateTables.has_spinner.Given as goal

abbrev pub invariant-loop-p : goal.invariant-loop-p
invariant-loop-p g l = (q : ℕ) → q < l.p → IsGoingOn l.code (placed_at l.self (slice_index l.row q)) → ⊥
