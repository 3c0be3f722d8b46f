use Rattle.std.proofs.Common.{ℕ, ap, drop, ◌∙◌}
use Rattle.std.proofs.lemmas.List.{drop_min}
use Rattle.symbol_table.proofs.bytes.rest_from.Goals as goal

pub returns : goal.returns
returns c =
    c.split_at.ensures.back ∙ ap (λ (i : ℕ). drop i c.args.bytes.now) c.min.ensures ∙ drop_min c.args.place c.args.bytes.now
