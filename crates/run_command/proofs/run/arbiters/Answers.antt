use Rattle.std.proofs.Common.{◌+◌, ◌∷◌, [], ◌++◌, sym, ap, ap₂, ◌∙◌, arith}
use Rattle.std.proofs.lemmas.List.FromFn.{map-range_with_len_more}
use Rattle.schedules.specs.Choices.{first_state}
use Rattle.run_command.proofs.run.arbiters.Goals as goal

pub loop-p-preserved : goal.loop-p-preserved
loop-p-preserved c = record {
  states = c.in_ok-push.ensures.items
      ∙ (ap₂ (λ xs x. xs ++ x ∷ []) c.loop-p.invariant.states c.new.ensures
      ∙ sym (map-range_with_len_more (first_state c.args.start) 0 c.loop-p.p c.loop-p.p (omega arith)));
  many = c.in_ok-push.ensures.len ∙ ap (λ n. n + 1) c.loop-p.invariant.many;
}
