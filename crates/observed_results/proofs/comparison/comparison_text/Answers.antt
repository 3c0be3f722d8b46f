use Rattle.std.proofs.Common.{List, ℕ, length, ap, ◌∙◌}
use Rattle.observed_results.specs.Outcomes.{missing_lines}
use Rattle.observed_results.proofs.comparison.comparison_text.Goals as goal

pub returns-clause-lines : goal.returns-clause-lines
returns-clause-lines c =
    c.in_ok-text.ensures
    ∙ (λ j. missing_lines (c.in_ok-parts.ensures.are j) (c.in_ok-missing.ensures j) (c.in_ok-count.ensures j))

pub returns-clause-missing : goal.returns-clause-missing
returns-clause-missing c = c.count.ensures ∙ ap (λ (texts : List (List ℕ)). length texts) c.in_ok-missing.ensures
