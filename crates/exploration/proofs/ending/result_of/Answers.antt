use Rattle.std.proofs.Common.{ap, ◌∙◌}
use Rattle.std.specs.Prelude.{slice_index}
use Rattle.state_search.specs.state_store.StateTables.{words_at}
use Rattle.exploration.proofs.ending.result_of.Goals as goal

pub returns : goal.returns
returns g c =
    let words = c.in_ok-words.ensures ∙ (c.words.ensures ∙ ap (λ i. words_at c.args.state_tables.now (slice_index c.args.row.now i)) c.from.ensures) in
    λ i. record { processors = c.in_ok-processors.ensures i; words = words i }
