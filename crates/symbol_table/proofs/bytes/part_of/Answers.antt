use Rattle.std.proofs.Common.{ℕ, ap, take, ◌∙◌}
use Rattle.std.proofs.lemmas.List.{take_min}
use Rattle.symbol_table.proofs.bytes.part_of.Goals as goal

pub returns : goal.returns
returns c =
    let rest = c.rest_from-rest.result.now in
    c.split_at.ensures.front ∙ ap (λ (i : ℕ). take i rest) c.min.ensures ∙ take_min c.args.size rest ∙ ap (take c.args.size) c.rest_from-rest.ensures
