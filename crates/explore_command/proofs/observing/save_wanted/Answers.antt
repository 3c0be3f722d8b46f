use Rattle.std.proofs.Common.{List, Some, refl, subst}
use Rattle.std.proofs.lemmas.Result.{err_from_is_err_and}
use Rattle.machine_steps.specs.steps.declared.step.Step.{Step}
use Rattle.trace_file.specs.Traces.{trace_bytes, trace_of}
use Rattle.run_reports.specs.RunReports.{HasPartSaved, HasSaved, trace_output}
use Rattle.explore_command.specs.Explorations.{problem_of, search_result}
use Rattle.explore_command.proofs.Wanted.{not_led_to, witnessed}
use Rattle.explore_command.proofs.observing.save_wanted.Goals as goal

pub returns-in_err-log-clause-refused : goal.returns-in_err-log-clause-refused
returns-in_err-log-clause-refused g c =
    let p = err_from_is_err_and c.from_residual.result c.from_residual.ensures.1 in
    rw (p.1, p.2)
    (λ marks parts. not_led_to marks (problem_of c.args.config c.args.machine.now.image c.args.asked)
    (trace_output g.T.Write.contents c.args.trace.now c.args.trace.now) refl c.in_err-log.field-0.0 (c.in_err-log.ensures.refused marks parts))

pub returns-in_err-save-clause-refused : goal.returns-in_err-save-clause-refused
returns-in_err-save-clause-refused g c =
    let p = err_from_is_err_and c.from_residual-in_err-save.result c.from_residual-in_err-save.ensures.1 in
    let f = c.in_err-save.ensures.failed in
    let found = c.args.found.now in
    rw (p.1, p.2, f.0)
    (λ marks parts. (
      refl,
      record {
        opening = c.args.machine.now;
        opens = c.requires.opens;
        found = search_result found.classes.items found.results.items found.termination found.fairness found.states;
        all = c.requires.all;
        fair = c.requires.fair;
        part = record {
          steps = c.in_ok-log.log.steps;
          witness = c.in_ok-log.ensures.wanted marks parts;
          part = subst (λ (steps : List Step). HasPartSaved (trace_output g.T.Write.contents c.args.trace.now c.save.new.trace)
              (trace_bytes (trace_of c.args.config steps))) c.steps.ensures.steps f.1;
        };
      },
    ))

pub returns-clause-saved : goal.returns-clause-saved
returns-clause-saved g c = λ marks parts.
    let found = c.args.found.now in
    witnessed (Some marks) (problem_of c.args.config c.args.machine.now.image c.args.asked)
    (search_result found.classes.items found.results.items found.termination found.fairness found.states) g.T.Write.contents
    c.args.trace.now c.save.new.trace c.in_ok-log.log.steps (c.in_ok-log.ensures.wanted marks parts)
    (subst (λ (steps : List Step). HasSaved (trace_output g.T.Write.contents c.args.trace.now c.save.new.trace) (trace_bytes (trace_of c.args.config steps)))
    c.steps.ensures.steps c.in_ok-save.ensures.saved)
