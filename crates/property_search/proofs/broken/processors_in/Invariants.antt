use Rattle.std.proofs.Common.{◌≡◌, map}
use Rattle.std.specs.Prelude.{slice_index}
use Rattle.std.specs.List.{range_with_len}
use Rattle.local_reduction.specs.Results.{local_state_result}
use Rattle.state_search.specs.state_store.StateTables.{placed_at}
use Rattle.state_conditions.specs.Results.{processor_state}
use Rattle.property_search.proofs.broken.processors_in.Given as goal

abbrev pub invariant-loop-p : goal.invariant-loop-p
invariant-loop-p g l = record {
  shown : l.processors.items
      ≡ map (λ q. processor_state (local_state_result (placed_at l.state_tables (slice_index l.row q)).local_state)) (range_with_len 0 l.p);
}
