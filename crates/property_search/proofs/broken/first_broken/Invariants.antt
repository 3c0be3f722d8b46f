use Rattle.std.proofs.Common.{◌≡◌, ℕ, ◌<◌, false}
use Rattle.local_reduction.specs.Results.{result_at}
use Rattle.state_search.specs.Search.{state_at}
use Rattle.state_conditions.specs.Results.{breaks_result}
use Rattle.property_search.proofs.broken.first_broken.Given as goal

abbrev pub invariant-loop-row : goal.invariant-loop-row
invariant-loop-row g l = record {
  place : l.place ≡ l.row-index;
  fine : (i : ℕ) → i < l.row-index →
      breaks_result l.property.kind l.property.condition (result_at (state_at l.extent l.state_tables l.rows i)) ≡ false;
}
