use Rattle.std.proofs.Common.{inr, subst}
use Rattle.std.specs.Prelude.{string_bytes}
use Rattle.std.specs.Io.KnownBytes.{Appends}
use Rattle.std.proofs.lemmas.Result.{err_from_is_err_and}
use Rattle.link.specs.Transfer.{AppendsPart}
use Rattle.command_io.specs.Links.{input, output}
use Rattle.explore_command.specs.Explorations.{exploration_of, marks_of, problem_of}
use Rattle.explore_command.specs.Parts.{IsReport}
use Rattle.witness_traces.specs.declared.refused.Refused.TheVariants as refused
use Rattle.run_reports.specs.RunReports.{trace_output}
use Rattle.explore_command.proofs.NotFound.{not_found, prints_some}
use Rattle.explore_command.proofs.command.execute.Goals as goal

pub returns-in_err-report-clause-fault : goal.returns-in_err-report-clause-fault
returns-in_err-report-clause-fault g c =
    let p = err_from_is_err_and c.from_residual-in_err-report.result c.from_residual-in_err-report.ensures.1 in
    rw (p.1, p.2)
    (not_found (exploration_of c.args.config c.args.asked (input g.R.Read.remaining g.R.Link.has_failed c.args.file.now c.image_of.new.file))
    (trace_output g.T.Write.contents c.args.trace.now c.explore_image.new.trace)
    (output g.W.Write.contents g.W.Link.has_failed c.args.out.now c.args.out.now) c.in_ok-image.image c.in_ok-image.ensures.image
    c.in_err-report.field-0.0 c.in_err-report.ensures.refused)

pub returns-in_err-print-clause-fault : goal.returns-in_err-print-clause-fault
returns-in_err-print-clause-fault g c =
    let p = err_from_is_err_and c.from_residual-in_err-print.result c.from_residual-in_err-print.ensures.1 in
    let f = c.in_err-print.ensures.begun in
    let e = exploration_of c.args.config c.args.asked (input g.R.Read.remaining g.R.Link.has_failed c.args.file.now c.image_of.new.file) in
    let trace = trace_output g.T.Write.contents c.args.trace.now c.explore_image.new.trace in
    let report = c.in_ok-report.report in
    rw (p.1, p.2, f.0)
    (record {
      text = string_bytes report.text;
      meant = prints_some e trace c.in_ok-image.image c.in_ok-image.ensures.image (string_bytes report.text) report.end c.in_ok-report.ensures.report;
      part = subst (λ bytes. AppendsPart (g.W.Write.contents c.args.out.now) (g.W.Write.contents c.print.new.out) bytes) c.as_str.ensures.value f.1;
    })

pub returns-clause-fault : goal.returns-clause-fault
returns-clause-fault g c =
    let e = exploration_of c.args.config c.args.asked (input g.R.Read.remaining g.R.Link.has_failed c.args.file.now c.image_of.new.file) in
    let trace = trace_output g.T.Write.contents c.args.trace.now c.explore_image.new.trace in
    let image = c.in_ok-image.image in
    let report = c.in_ok-report.report in
    let h = subst (IsReport (marks_of c.args.asked) (problem_of c.args.config image c.args.asked) trace (string_bytes report.text))
    c.in-GivenUp.is c.in_ok-report.ensures.report in
    not_found e trace (output g.W.Write.contents g.W.Link.has_failed c.args.out.now c.print.new.out) image c.in_ok-image.ensures.image
    (refused.Fault c.in-GivenUp.fault) h.1

pub returns-clause-silent : goal.returns-clause-silent
returns-clause-silent g c = λ works.
    let trace = trace_output g.T.Write.contents c.args.trace.now c.explore_image.new.trace in
    let image = c.in_ok-image.image in
    let report = c.in_ok-report.report in
    let h = subst (IsReport (marks_of c.args.asked) (problem_of c.args.config image c.args.asked) trace (string_bytes report.text))
    c.in-GivenUp.is c.in_ok-report.ensures.report in
    inr (record {
      text = string_bytes report.text;
      meant = record { image = image; meant = c.in_ok-image.ensures.image; part = h.0 };
      printed = subst (λ bytes. Appends (g.W.Write.contents c.args.out.now) (g.W.Write.contents c.print.new.out) bytes) c.as_str.ensures.value
          c.in_ok-print.ensures.printed;
    })
