use Rattle.std.proofs.Common.{◌≡◌, ℕ, [], ◌∷◌, ◌++◌, map, sym, ap, ap₂, ◌∙◌, arith}
use Rattle.std.proofs.lemmas.List.FromFn.{map-range_with_len_more}
use Rattle.std.specs.Prelude.{slice_index}
use Rattle.std.specs.List.{range_with_len}
use Rattle.local_reduction.specs.Results.{local_state_result}
use Rattle.state_conditions.specs.declared.condition.ProcessorState.{ProcessorState}
use Rattle.state_search.specs.state_store.Placed.{Placed}
use Rattle.state_search.specs.state_store.StateTables.{placed_at}
use Rattle.state_conditions.specs.Results.{processor_state}
use Rattle.property_search.proofs.Verdicts.{all_seen}
use Rattle.property_search.proofs.broken.processors_in.Goals as goal

pub loop-p-preserved : goal.loop-p-preserved
loop-p-preserved g c =
    let shown : ℕ → ProcessorState = λ q. processor_state (local_state_result (placed_at c.args.state_tables.now (slice_index c.args.row.now q)).local_state) in
    let is : c.local_state.result.now ≡ placed_at c.args.state_tables.now (slice_index c.args.row.now c.loop-p.p) =
    c.local_state.ensures ∙ ap (λ i. placed_at c.args.state_tables.now (slice_index c.args.row.now i)) c.from-in-loop-p.ensures in
    record {
      shown = c.in_ok-push.ensures.items
          ∙ (ap₂ (λ xs x. xs ++ x ∷ []) c.loop-p.invariant.shown
          (c.state_of.ensures ∙ ap (λ (a : Placed). processor_state (local_state_result a.local_state)) is)
          ∙ sym (map-range_with_len_more shown 0 c.loop-p.p c.loop-p.p (omega arith)));
    }

pub returns : goal.returns
returns g c =
    let all : c.loop-p.p ≡ c.args.extent.processors = omega arith in
    c.loop-p.invariant.shown
    ∙ (ap (λ n. map (λ q. processor_state (local_state_result (placed_at c.args.state_tables.now (slice_index c.args.row.now q)).local_state))
    (range_with_len 0 n)) all
    ∙ sym (all_seen c.args.extent c.args.state_tables.now c.args.row.now))
