use Rattle.std.proofs.Common.{◌<◌, ◌^◌, Some, not, ap, refl, subst, ◌∙◌}
use Rattle.std.specs.Prelude.{string_bytes}
use Rattle.std.proofs.lemmas.Result.{err_from_is_err_and}
use Rattle.flat_machine.specs.declared.config.Config.{Config}
use Rattle.machine_steps.specs.Openings.{flat_state}
use Rattle.exploration.specs.Endings.{AreSingle}
use Rattle.exploration.specs.Refusals.{why_of}
use Rattle.exploration.specs.States.{IsGivenUp}
use Rattle.run_reports.specs.RunReports.{trace_output}
use Rattle.explore_command.specs.Explorations.{problem_of}
use Rattle.explore_command.proofs.NotFound.{not_given_up, part_reported}
use Rattle.explore_command.proofs.observing.explore_observed.Goals as goal

pub report_parts-requires : goal.report_parts-requires
report_parts-requires g c =
    let found = c.in-Ok.found in
    record {
      opens = c.requires.opens;
      words = c.requires.words;
      works = c.requires.works;
      all = c.in-Ok.ensures.results;
      fact = c.in-Ok.ensures.termination;
      fair = c.in-Ok.ensures.fairness;
      found = record {
        opening = c.args.machine.now;
        opens = c.requires.opens;
        all = c.in-Ok.ensures.results;
        single = λ each. subst (λ (d : Config). AreSingle (2 ^ d.k) found.classes.items) c.requires.opens.config
            (c.in-Ok.ensures.single (c.search_of.ensures.exchanged ∙ ap not each));
        fact = c.in-Ok.ensures.termination;
        fair = c.in-Ok.ensures.fairness;
        counted = c.in-Ok.ensures.states;
        few = subst (λ n. found.states < n) c.search_of.ensures.limit c.in-Ok.ensures.few;
      };
    }

pub returns-in_ok-report_part-in-Err-clause-report : goal.returns-in_ok-report_part-in-Err-clause-report
returns-in_ok-report_part-in-Err-clause-report g c =
    let m = c.args.machine.now in
    let given_up = c.in-Err.given_up in
    let shown = c.in_ok-report_part-in-Err.field-0 in
    part_reported (Some c.args.words.now) (problem_of c.args.config m.image c.args.asked)
    (trace_output g.T.Write.contents c.args.trace.now c.args.trace.now) m c.requires.opens refl given_up
    (subst (λ n. IsGivenUp (flat_state m) n (why_of given_up)) c.search_of.ensures.limit c.in-Err.ensures.given_up)
    c.in-Err.ensures.so_far (string_bytes shown.text) shown.end c.in_ok-report_part-in-Err.ensures.lines
    c.in_ok-report_part-in-Err.ensures.end

pub returns-in_err-report_part-in-Err-clause-refused : goal.returns-in_err-report_part-in-Err-clause-refused
returns-in_err-report_part-in-Err-clause-refused g c =
    let x = err_from_is_err_and c.from_residual.result c.from_residual.ensures.1 in
    let m = c.args.machine.now in
    let given_up = c.in-Err.given_up in
    rw (x.1, x.2)
    (not_given_up (Some c.args.words.now) (problem_of c.args.config m.image c.args.asked)
    (trace_output g.T.Write.contents c.args.trace.now c.args.trace.now) m c.requires.opens refl given_up
    (subst (λ n. IsGivenUp (flat_state m) n (why_of given_up)) c.search_of.ensures.limit c.in-Err.ensures.given_up)
    c.in_err-report_part-in-Err.field-0.0 c.in_err-report_part-in-Err.ensures.fault)
