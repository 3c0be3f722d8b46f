use Rattle.std.proofs.Common.{◌++◌, List, ℕ, None, Some, ap, ap₂, subst, ◌∙◌}
use Rattle.std.proofs.lemmas.Result.{err_from_is_err_and}
use Rattle.exploration.specs.local_reduction.Results.{FinalResult}
use Rattle.explore_command.specs.Causes.{IsNotSaved}
use Rattle.explore_command.specs.Explorations.{IsExitOf, IsWitnessed, problem_of, search_result}
use Rattle.explore_command.specs.Lassos.{fairness_text}
use Rattle.run_reports.specs.RunReports.{trace_output}
use Rattle.observed_results.specs.Lines.{results_lines}
use Rattle.explore_command.proofs.NotFound.{not_saved}
use Rattle.explore_command.proofs.searching.report_all.Goals as goal

pub returns-in_err-save_witness-clause-refused : goal.returns-in_err-save_witness-clause-refused
returns-in_err-save_witness-clause-refused g c =
    let p = err_from_is_err_and c.from_residual-in_err-save_witness.result c.from_residual-in_err-save_witness.ensures.1 in
    let found = c.args.found.now in
    let is = c.requires.found in
    let result = search_result found.classes.items found.results.items found.termination found.fairness found.states in
    let trace = trace_output g.T.Write.contents c.args.trace.now c.save_witness.new.trace in
    rw (p.1, p.2)
    (not_saved None (problem_of c.args.config c.args.machine.now.image c.args.asked) trace is.opening is.opens result is.all is.fact is.fair
    c.in_err-save_witness.field-0.0
    (subst (λ image. IsNotSaved None (problem_of c.args.config image c.args.asked) result trace c.in_err-save_witness.field-0.0) c.image.ensures
    c.in_err-save_witness.ensures.refused))

pub returns-clause-report : goal.returns-clause-report
returns-clause-report g c =
    let found = c.args.found.now in
    let shown = ap₂ (λ (rs : List FinalResult) (cs : List ℕ). results_lines rs cs found.states (Some found.termination))
    c.as_slice-results.ensures.value c.as_slice-classes.ensures.value in (
      record {
        found = search_result found.classes.items found.results.items found.termination found.fairness found.states;
        is = c.requires.found;
        lines = c.in_ok-push_fairness.ensures
            ∙ ap (λ text. text ++ fairness_text c.args.asked.fair found.fairness) (c.in_ok-text.ensures ∙ shown);
        exit = subst (λ rs. IsExitOf rs found.termination c.exit_status-status.result) c.as_slice-results.ensures.value
            c.exit_status-status.ensures.exit;
        witnessed = subst (λ image. IsWitnessed None (problem_of c.args.config image c.args.asked)
            (search_result found.classes.items found.results.items found.termination found.fairness found.states)
            (trace_output g.T.Write.contents c.args.trace.now c.save_witness.new.trace)) c.image.ensures c.in_ok-save_witness.ensures.saved;
      },
      c.exit_status-status.ensures.low,
    )
