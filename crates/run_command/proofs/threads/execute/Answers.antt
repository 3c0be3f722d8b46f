use Rattle.std.proofs.Common.{ℕ, List, Vec, Global, map, refl, sym, subst}
use Rattle.std.specs.Prelude.{IfSome}
use Rattle.std.proofs.lemmas.Result.{IfOk-weaker, IfErr-weaker}
use Rattle.command_io.specs.Links.{input, output}
use Rattle.processor_threads.specs.Consoles.{bytes_of}
use Rattle.run_reports.specs.CountedReplays.{AreConsoles}
use Rattle.run_reports.specs.RunReports.{trace_output}
use Rattle.run_reports.proofs.Lemmas.{can_be_reported, run_printed}
use Rattle.run_command.specs.ThreadRuns.{IsSomeThreaded, on_threads, threaded_run, unfinished_on_threads}
use Rattle.run_command.specs.UnfinishedRuns.{EndsInFault}
use Rattle.run_command.proofs.Budgets.{over_ends, printed_ends, silent_but, silent_of}
use Rattle.run_command.proofs.Logging.{log_opens, unfinished_is, unfinished_opens}
use Rattle.run_command.proofs.threads.execute.Goals as goal

pub print_run-requires-clause-ready : goal.print_run-requires-clause-ready
print_run-requires-clause-ready g c =
    let asked = threaded_run c.args.config (input {R = g.row.F.Denot} g.F.Read.remaining g.F.Link.has_failed c.args.file.now c.run_to_log.new.file) in
    let log = c.in_ok-log.field-0.log in
    let r = subst (λ o. IfSome o (λ cs. IsSomeThreaded asked log (map bytes_of cs.items))) c.in-Some.is c.in_ok-log.ensures.run_to_log in
    let opens = log_opens asked r.0 log (map bytes_of c.in-Some.consoles.items) r.1 in
    can_be_reported c.args.config r.0 log opens r.1.ended.kept.replay r.1.meant.words r.1.ended.idle r.1.trace

pub print_run-requires-clause-heard : goal.print_run-requires-clause-heard
print_run-requires-clause-heard g c =
    let asked = threaded_run c.args.config (input {R = g.row.F.Denot} g.F.Read.remaining g.F.Link.has_failed c.args.file.now c.run_to_log.new.file) in
    let log = c.in_ok-log.field-0.log in
    let r = subst (λ o. IfSome o (λ cs. IsSomeThreaded asked log (map bytes_of cs.items))) c.in-Some.is c.in_ok-log.ensures.run_to_log in
    subst (λ (cs : List (Vec ℕ Global)). AreConsoles log.opening log.steps (map (λ (v : Vec ℕ Global). v.items) cs)) (sym c.as_slice.ensures.value)
    r.1.ended.heard

pub print_unfinished-requires-clause-ready : goal.print_unfinished-requires-clause-ready
print_unfinished-requires-clause-ready g c =
    let asked = threaded_run c.args.config (input {R = g.row.F.Denot} g.F.Read.remaining g.F.Link.has_failed c.args.file.now c.run_to_log.new.file) in
    let t = c.in_ok-log.ensures.unfinished c.in-None.is in
    let log = c.in_ok-log-in-None.log in
    let u = unfinished_is asked t.0 c.in_ok-log.field-0.log log t.1 c.in_ok-log-in-None.ensures.drained in
    can_be_reported c.args.config t.0 log (unfinished_opens asked t.0 log u) u.drained.kept.replay u.taken.meant.words u.drained.idle u.trace

pub returns-in-Some-clause-reported : goal.returns-in-Some-clause-reported
returns-in-Some-clause-reported g c =
    let asked = threaded_run c.args.config (input {R = g.row.F.Denot} g.F.Read.remaining g.F.Link.has_failed c.args.file.now c.run_to_log.new.file) in
    let log = c.in_ok-log.field-0.log in
    let consoles = map bytes_of c.in-Some.consoles.items in
    let r = subst (λ o. IfSome o (λ cs. IsSomeThreaded asked log (map bytes_of cs.items))) c.in-Some.is c.in_ok-log.ensures.run_to_log in
    IfOk-weaker c.print_run.result _ _
    (run_printed c.args.config r.0 log (log_opens asked r.0 log consoles r.1) r.1.ended.kept.replay (on_threads asked) refl (consoles, r.1)
    (trace_output {T = g.row.T.Denot} g.T.Write.contents c.args.trace.now c.print_run.new.trace)
    (output {W = g.row.W.Denot} g.W.Write.contents g.W.Link.has_failed c.args.out.now c.print_run.new.out))
    c.print_run.ensures.reported

pub returns-in-Some-clause-fault : goal.returns-in-Some-clause-fault
returns-in-Some-clause-fault g c =
    let asked = threaded_run c.args.config (input {R = g.row.F.Denot} g.F.Read.remaining g.F.Link.has_failed c.args.file.now c.run_to_log.new.file) in
    let log = c.in_ok-log.field-0.log in
    let consoles = map bytes_of c.in-Some.consoles.items in
    let r = subst (λ o. IfSome o (λ cs. IsSomeThreaded asked log (map bytes_of cs.items))) c.in-Some.is c.in_ok-log.ensures.run_to_log in
    IfErr-weaker c.print_run.result _ _
    (over_ends c.args.config r.0 log (log_opens asked r.0 log consoles r.1) r.1.ended.kept.replay (on_threads asked) (unfinished_on_threads asked)
    (trace_output {T = g.row.T.Denot} g.T.Write.contents c.args.trace.now c.print_run.new.trace)
    (output {W = g.row.W.Denot} g.W.Write.contents g.W.Link.has_failed c.args.out.now c.print_run.new.out) c.args.unfinished refl (consoles, r.1) tt)
    c.print_run.ensures.fault

pub returns-in-Some-clause-silent : goal.returns-in-Some-clause-silent
returns-in-Some-clause-silent g c = silent_of c.print_run.result c.args.unfinished _ c.print_run.ensures.silent

pub returns-in_ok-log-in-None-clause-fault : goal.returns-in_ok-log-in-None-clause-fault
returns-in_ok-log-in-None-clause-fault g c =
    let asked = threaded_run c.args.config (input {R = g.row.F.Denot} g.F.Read.remaining g.F.Link.has_failed c.args.file.now c.run_to_log.new.file) in
    let t = c.in_ok-log.ensures.unfinished c.in-None.is in
    let log = c.in_ok-log-in-None.log in
    let u = unfinished_is asked t.0 c.in_ok-log.field-0.log log t.1 c.in_ok-log-in-None.ensures.drained in
    let trace = trace_output {T = g.row.T.Denot} g.T.Write.contents c.args.trace.now c.print_unfinished.new.trace in
    let out = output {W = g.row.W.Denot} g.W.Write.contents g.W.Link.has_failed c.args.out.now c.print_unfinished.new.out in
    subst (λ b. EndsInFault b (on_threads asked) (unfinished_on_threads asked) trace out c.print_unfinished.result) (sym c.if-unfinished.true)
    (printed_ends c.args.config t.0 log (unfinished_opens asked t.0 log u) u.drained.kept.replay (on_threads asked) (unfinished_on_threads asked) trace out
    refl u refl c.print_unfinished.result c.print_unfinished.ensures.fault)

pub returns-in_ok-log-in-None-clause-silent : goal.returns-in_ok-log-in-None-clause-silent
returns-in_ok-log-in-None-clause-silent g c =
    silent_but c.args.unfinished _ c.print_unfinished.result c.if-unfinished.true c.print_unfinished.ensures.silent
