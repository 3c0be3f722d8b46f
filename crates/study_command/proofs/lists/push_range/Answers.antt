use Rattle.std.proofs.Common.{◌+◌, [], ◌∷◌, ◌++◌, append_assoc, sym, ap, ◌∙◌, arith}
use Rattle.std.specs.Prelude.{map}
use Rattle.std.specs.List.{range_with_len}
use Rattle.std.proofs.lemmas.List.FromFn.{map-range_with_len_more}
use Rattle.study_command.proofs.lists.push_range.Goals as goal

pub loop-offset-preserved : goal.loop-offset-preserved
loop-offset-preserved c =
    let old = c.args.numbers.now.items in
    let first = c.args.first in
    let i = c.loop-offset.offset in
    c.in_ok-push.ensures.items
    ∙ ap (λ xs. xs ++ (first + i) ∷ []) c.loop-offset.invariant
    ∙ append_assoc old (map (λ n. first + n) (range_with_len 0 i)) ((first + i) ∷ [])
    ∙ ap (λ xs. old ++ xs) (sym (map-range_with_len_more (λ n. first + n) 0 i i (omega arith)))
