use Rattle.std.proofs.lemmas.Result.{IfOk-weaker}
use Rattle.command_io.specs.Links.{input, opened_input, output}
use Rattle.trace_commands.specs.TraceReports.{OfTrace, trace_input}
use Rattle.trace_commands.proofs.OfTraces.{prints_weaker}
use Rattle.trace_commands.proofs.trace_report.execute.Goals as goal

pub returns-clause-printed : goal.returns-clause-printed
returns-clause-printed g c =
    let read = input {R = g.row.T.Denot} g.T.Read.remaining g.T.Link.has_failed c.args.trace.now c.trace_of.new.file in
    let image = opened_input {R = g.row.R.Denot} g.R.Read.remaining g.R.Link.has_failed c.args.file.now c.print_trace.new.file in
    let reports = g.A.TraceReport.reports c.args.trace_report.now in
    IfOk-weaker c.print_trace.result _ _
    (λ status. prints_weaker (OfTrace reports c.in_ok-trace.trace c.args.shared_words) reports (trace_input read image c.args.shared_words)
    (output {W = g.row.W.Denot} g.W.Write.contents g.W.Link.has_failed c.args.out.now c.print_trace.new.out) status (λ d i steps text p. p.2))
    (c.print_trace.ensures.printed read c.in_ok-trace.ensures.trace)

pub returns-clause-fault : goal.returns-clause-fault
returns-clause-fault g c =
    let read = input {R = g.row.T.Denot} g.T.Read.remaining g.T.Link.has_failed c.args.trace.now c.trace_of.new.file in
    c.print_trace.ensures.fault read c.in_ok-trace.ensures.trace
