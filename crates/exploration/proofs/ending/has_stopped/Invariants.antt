use Rattle.std.proofs.Common.{◌≡◌, ℕ, ◌<◌, false}
use Rattle.std.specs.Prelude.{slice_index}
use Rattle.flat_machine.specs.State.{is_running}
use Rattle.state_search.specs.state_store.StateTables.{placed_at}
use Rattle.exploration.proofs.ending.has_stopped.Given as goal

abbrev pub invariant-loop-p : goal.invariant-loop-p
invariant-loop-p g l = record {
  stopped : (q : ℕ) → q < l.p → is_running (placed_at l.state_tables (slice_index l.row q)).local_state.processor.status ≡ false;
}
