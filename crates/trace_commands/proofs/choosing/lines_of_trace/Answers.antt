use Rattle.std.proofs.Common.{◌≡◌, ◌∙◌, ap, ap₂, inr, sym, Bool, false, Option, Some, None}
use Rattle.std.proofs.lemmas.Bool.{true≢false}
use Rattle.std.specs.Prelude.{Err, is_some}
use Rattle.std.proofs.lemmas.Result.{IfErr-at_err, IfOk-at_ok}
use Rattle.command_io.specs.Links.{opened_input, output}
use Rattle.command_io.proofs.Lemmas.{of_link, reports_with}
use Rattle.trace_commands.specs.Choices.{UnlessRefused}
use Rattle.trace_commands.specs.TraceReports.{OfTrace, trace_input}
use Rattle.trace_commands.proofs.OfTraces.{prints_weaker}
use Rattle.trace_commands.proofs.Statuses.{error_is}
use Rattle.trace_commands.proofs.choosing.lines_of_trace.Goals as goal

-- A trace without a refusal is not refused.
not_refused : {X : Type 0} (refusal : Option X) (b : Bool) → refusal ≡ None → is_some refusal ≡ b → b ≡ false
not_refused None b none is = sym is
not_refused (Some x) b none is = absurd (let e = none in cc)

pub returns-clause-printed : goal.returns-clause-printed
returns-clause-printed g c read is low =
    let refuses = g.S.Selection.refuses c.args.selection.now in
    let reports = g.A.TraceReport.reports c.args.trace_report.now in
    let image = opened_input {R = g.row.R.Denot} g.R.Read.remaining g.R.Link.has_failed c.args.file.now c.print_trace-outcome.new.file in
    let granted = ap₂ refuses (sym c.config.ensures) (sym c.steps.ensures)
    ∙ not_refused c.refusal.result _ c.in_default.is c.refusal.ensures in
    prints_weaker (OfTrace reports c.args.trace.now c.args.shared_words) (UnlessRefused refuses reports) (trace_input read image c.args.shared_words)
    (output {W = g.row.W.Denot} g.W.Write.contents g.W.Link.has_failed c.args.out.now c.print_trace-outcome.new.out) _
    (λ d i steps text p. (ap₂ refuses p.0 p.1 ∙ granted, p.2))
    (IfOk-at_ok _ (c.report_outcome.ensures.done low) (c.print_trace-outcome.ensures.printed read is))

pub returns-clause-fault : goal.returns-clause-fault
returns-clause-fault g c read is works high =
    let outcome = c.print_trace-outcome.result in
    let e = c.print_trace-outcome.ensures in
    inr (reports_with outcome _
    (λ f at. record {
      cause = IfErr-at_err _ at (e.fault read is);
      unread = ((λ same. absurd (e.read (at ∙ ap (λ x. Err x) same))), (λ failed. absurd (true≢false (sym failed ∙ works))));
      unread_image = of_link outcome f _ _ at e.unread_image;
      unprinted = λ failed. error_is outcome f _ at (e.failed failed);
      closed = λ same. e.closed (at ∙ ap (λ x. Err x) same);
    })
    (c.report_outcome.ensures.fault high))
