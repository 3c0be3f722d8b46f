use Rattle.std.proofs.Common.{List, ℕ, length, ap, ◌∙◌}
use Rattle.observed_results.specs.Filters.{chosen_lines}
use Rattle.observed_results.specs.Lines.{with_closing}
use Rattle.observed_results.proofs.filter.filtered_text.Goals as goal

pub returns : goal.returns
returns c =
    let lines = c.in_ok-text.ensures ∙ (λ j. chosen_lines (c.requires.parts.are j) (c.in_ok-chosen.ensures j)) in
    let all = c.count.ensures ∙ ap (λ (texts : List (List ℕ)). length texts) c.requires.parts.are in
    c.in_ok-push_closing.ensures ∙ (λ j. with_closing (lines j) (all j) c.args.classes.now c.args.states c.args.termination)
