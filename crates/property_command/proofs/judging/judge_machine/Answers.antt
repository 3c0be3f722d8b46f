use Rattle.std.proofs.Common.{subst}
use Rattle.std.proofs.lemmas.Result.{err_from_is_err_and}
use Rattle.machine_steps.specs.Openings.{flat_state}
use Rattle.property_search.specs.Verdicts.{IsVerdict}
use Rattle.run_reports.specs.RunReports.{trace_output}
use Rattle.property_command.specs.Counterexamples.{IsCounterexampleSaved, IsNotSaved}
use Rattle.property_command.proofs.NotJudged.{not_saved}
use Rattle.property_command.proofs.judging.judge_machine.Goals as goal

pub returns-in_err-save_counterexample-clause-refused : goal.returns-in_err-save_counterexample-clause-refused
returns-in_err-save_counterexample-clause-refused g c =
    let p = err_from_is_err_and c.from_residual-in_err-save_counterexample.result c.from_residual-in_err-save_counterexample.ensures.1 in
    let property = c.args.asked.now.property.now in
    let trace = trace_output g.T.Write.contents c.args.trace.now c.save_counterexample.new.trace in
    let broken = subst (λ v. IsVerdict (flat_state c.args.machine.now) property.kind property.condition v) c.in_err-save_counterexample.ensures.broken
    c.in_ok-judged.ensures.verdict in
    rw (p.1, p.2)
    (not_saved c.args.config c.args.asked.now c.args.machine.now.image trace c.args.machine.now c.requires.opens broken
    c.in_err-save_counterexample.field-0.0
    (subst (λ image. IsNotSaved c.args.config image property trace c.in_err-save_counterexample.field-0.0) c.image.ensures
    c.in_err-save_counterexample.ensures.refused))

pub returns-clause-lines : goal.returns-clause-lines
returns-clause-lines g c =
    let judged = c.in_ok-judged.judged in
    let property = c.args.asked.now.property.now in
    let trace = trace_output g.T.Write.contents c.args.trace.now c.save_counterexample.new.trace in
    record {
      opening = c.args.machine.now;
      opens = c.requires.opens;
      verdict = judged.verdict;
      is = c.in_ok-judged.ensures.verdict;
      way = judged.way.items;
      lines = c.in_ok-text.ensures;
      exit = c.in-Some.ensures.status;
      saved = subst (λ image. IsCounterexampleSaved c.args.config image property judged.verdict judged.way.items trace) c.image.ensures
          c.in_ok-save_counterexample.ensures.saved;
    }
