use Rattle.std.proofs.Common.{◌++◌, Some, subst, ap, ◌∙◌}
use Rattle.std.proofs.lemmas.Result.{err_from_is_err_and}
use Rattle.explore_command.specs.Explorations.{IsExitOf, filter_of, search_result}
use Rattle.explore_command.specs.Lassos.{fairness_text}
use Rattle.observed_results.specs.Filters.{observed_lines}
use Rattle.observed_results.specs.Parts.{AreParts}
use Rattle.explore_command.proofs.observing.report_parts.Goals as goal

pub returns-in_err-save_wanted-clause-refused : goal.returns-in_err-save_wanted-clause-refused
returns-in_err-save_wanted-clause-refused g c =
    let p = err_from_is_err_and c.from_residual-in_err-save_wanted.result c.from_residual-in_err-save_wanted.ensures.1 in
    let parts = subst (λ rs. AreParts c.args.words.now rs c.in_ok-parts.parts) c.as_slice-results.ensures.value c.in_ok-parts.ensures in
    rw (p.1, p.2) (c.in_err-save_wanted.ensures.refused c.args.words.now parts)

pub returns-clause-report : goal.returns-clause-report
returns-clause-report g c =
    let found = c.args.found.now in
    let marks = c.args.words.now in
    let parts = subst (λ rs. AreParts marks rs c.in_ok-parts.parts) c.as_slice-results.ensures.value c.in_ok-parts.ensures in (
      record {
        found = search_result found.classes.items found.results.items found.termination found.fairness found.states;
        is = c.requires.found;
        lines = c.in_ok-push_fairness.ensures
            ∙ ap (λ text. text ++ fairness_text c.args.asked.fair found.fairness) (c.in_ok-text.ensures
            ∙ (λ j. observed_lines marks (filter_of c.args.asked) (c.as_slice-results.ensures.value j) (c.as_slice-classes.ensures.value j) found.states
            (Some found.termination)));
        exit = subst (λ rs. IsExitOf rs found.termination c.exit_status-status.result) c.as_slice-results.ensures.value
            c.exit_status-status.ensures.exit;
        witnessed = c.in_ok-save_wanted.ensures.saved marks parts;
      },
      c.exit_status-status.ensures.low,
    )
