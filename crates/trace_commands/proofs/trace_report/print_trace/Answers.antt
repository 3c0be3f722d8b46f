use Rattle.std.proofs.Common.{sym, subst}
use Rattle.std.specs.Prelude.{Ok}
use Rattle.std.proofs.lemmas.Result.{IfOk-weaker, IfErr-weaker}
use Rattle.elf_image.specs.Files.{IsImageOf}
use Rattle.command_io.specs.Links.{known_of, opened_input, output}
use Rattle.trace_commands.specs.TraceReports.{trace_input}
use Rattle.trace_commands.proofs.OfTraces.{trace_report_printed, no_trace_report}
use Rattle.trace_commands.proofs.trace_report.print_trace.Goals as goal

pub returns-clause-printed : goal.returns-clause-printed
returns-clause-printed g c = λ read is.
    let size = c.config-config.result in
    let image = c.in_ok-image.image in
    let meant = subst (λ f. IsImageOf size.shared_words (known_of {R = g.row.R.Denot} g.R.Read.remaining f) image) (sym c.in-Ok.is)
    c.in_ok-image.ensures.image in
    IfOk-weaker c.print_trace_report.result _ _
    (trace_report_printed (g.A.TraceReport.reports c.args.trace_report.now) (trace_input read (opened_input {R = g.row.R.Denot} g.R.Read.remaining
    g.R.Link.has_failed c.args.file.now (Ok c.image_of.new.file)) c.args.shared_words) c.args.trace.now is size c.config-config.ensures image meant
    c.steps.result.now c.steps.ensures (output {W = g.row.W.Denot} g.W.Write.contents g.W.Link.has_failed c.args.out.now c.print_trace_report.new.out))
    c.print_trace_report.ensures.printed

pub returns-clause-fault : goal.returns-clause-fault
returns-clause-fault g c = λ read is.
    let size = c.config-config.result in
    let image = c.in_ok-image.image in
    let meant = subst (λ f. IsImageOf size.shared_words (known_of {R = g.row.R.Denot} g.R.Read.remaining f) image) (sym c.in-Ok.is)
    c.in_ok-image.ensures.image in
    IfErr-weaker c.print_trace_report.result _ _
    (no_trace_report (g.A.TraceReport.reports c.args.trace_report.now) (trace_input read (opened_input {R = g.row.R.Denot} g.R.Read.remaining
    g.R.Link.has_failed c.args.file.now (Ok c.image_of.new.file)) c.args.shared_words) c.args.trace.now is size c.config-config.ensures image meant
    c.steps.result.now c.steps.ensures (output {W = g.row.W.Denot} g.W.Write.contents g.W.Link.has_failed c.args.out.now c.print_trace_report.new.out))
    c.print_trace_report.ensures.fault
