use Rattle.std.proofs.Common.{◌≡◌, ℕ, [], ◌∷◌, ◌++◌, map, sym, ap, ap₂, ◌∙◌, arith}
use Rattle.std.proofs.lemmas.List.FromFn.{map-range_with_len_more}
use Rattle.std.specs.Prelude.{slice_index}
use Rattle.std.specs.List.{range_with_len}
use Rattle.local_reduction.specs.Results.{ProcessorResult, local_state_result}
use Rattle.state_search.specs.state_store.StateTables.{placed_at}
use Rattle.exploration.proofs.Endings.{all_results}
use Rattle.exploration.proofs.ending.processors_of.Goals as goal

pub loop-p-preserved : goal.loop-p-preserved
loop-p-preserved g c =
    let shown : ℕ → ProcessorResult = λ q. local_state_result (placed_at c.args.state_tables.now (slice_index c.args.row.now q)).local_state in
    record {
      shown = c.in_ok-push.ensures.items
          ∙ (ap₂ (λ xs x. xs ++ x ∷ []) c.loop-p.invariant.shown
          (c.in_ok-processor_result.ensures ∙ ap (λ i. local_state_result (placed_at c.args.state_tables.now i).local_state)
          (ap (slice_index c.args.row.now) c.from.ensures))
          ∙ sym (map-range_with_len_more shown 0 c.loop-p.p c.loop-p.p (omega arith)));
    }

pub returns : goal.returns
returns g c =
    let all : c.loop-p.p ≡ c.args.extent.processors = omega arith in
    c.loop-p.invariant.shown
    ∙ (ap (λ n. map (λ q. local_state_result (placed_at c.args.state_tables.now (slice_index c.args.row.now q)).local_state) (range_with_len 0 n)) all
    ∙ sym (all_results c.args.extent c.args.state_tables.now c.args.row.now))
