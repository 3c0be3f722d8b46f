use Rattle.std.proofs.Common.{◌∷◌, [], ◌++◌, sym, ap₂, ◌∙◌, arith}
use Rattle.std.proofs.lemmas.List.FromFn.{map-range_with_len_more}
use Rattle.witness_traces.specs.Witnesses.{processor_left}
use Rattle.witness_traces.proofs.left.processors_left.Goals as goal

pub loop-p-preserved : goal.loop-p-preserved
loop-p-preserved c =
    let left = processor_left c.args.machine.now c.args.tally.now.shown in
    c.in_ok-push.ensures.items
    ∙ (ap₂ (λ xs x. xs ++ x ∷ []) c.loop-p.invariant c.in_ok-processor_left.ensures
    ∙ sym (map-range_with_len_more left 0 c.loop-p.p c.loop-p.p (omega arith)))
