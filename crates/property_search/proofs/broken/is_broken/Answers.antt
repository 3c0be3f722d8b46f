use Rattle.std.proofs.Common.{ap, ap₂, ◌∙◌}
use Rattle.std.specs.Prelude.{slice_index}
use Rattle.state_conditions.specs.Conditions.{breaks}
use Rattle.state_search.specs.state_store.StateTables.{words_at}
use Rattle.property_search.proofs.broken.is_broken.Goals as goal

pub returns : goal.returns
returns g c =
    c.is_broken_by.ensures
    ∙ ap₂ (breaks c.args.property.now.kind c.args.property.now.condition) (c.as_slice.ensures.value ∙ c.in_ok-processors.ensures)
    (c.words-words.ensures ∙ ap (λ i. words_at c.args.state_tables.now (slice_index c.args.row.now i)) c.from.ensures)
