use Rattle.std.proofs.Common.{◌≡◌, true, refl, subst, sym}
use Rattle.std.proofs.lemmas.Result.{IfOk-weaker, IfErr-weaker, err_from_is_err_and}
use Rattle.command_io.specs.Links.{input, output}
use Rattle.schedules.specs.Sweeps.{most_of}
use Rattle.run_reports.specs.RunReports.{trace_output}
use Rattle.run_reports.proofs.Lemmas.{can_be_reported, run_printed}
use Rattle.run_command.specs.SweepRuns.{IsSomeEndedRun, by_sweep, sweep_run, unfinished_by_sweep}
use Rattle.run_command.specs.UnfinishedRuns.{EndsInFault, is_reported}
use Rattle.run_command.proofs.Budgets.{as_error, ends, over_ends, printed_ends, silent_but, silent_of}
use Rattle.run_command.proofs.Running.{run_fails}
use Rattle.run_command.proofs.sweep.execute.Goals as goal

pub print_run-requires-clause-ready : goal.print_run-requires-clause-ready
print_run-requires-clause-ready g c =
    let r = c.in_ok-log.ensures.run_to_log in
    let run = r.1.ended.whole in
    can_be_reported c.args.config r.0 c.in_ok-log.log run.opens run.replay r.1.ended.meant.words run.swept.idle r.1.trace

pub print_unfinished-requires-clause-ready : goal.print_unfinished-requires-clause-ready
print_unfinished-requires-clause-ready g c =
    let r = c.in_ok-log.ensures.run_to_log in
    let run = r.1.ended.whole in
    can_be_reported c.args.config r.0 c.in_ok-log.log run.opens run.replay r.1.ended.meant.words run.swept.idle r.1.trace

pub returns-in-Over-clause-reported : goal.returns-in-Over-clause-reported
returns-in-Over-clause-reported g c =
    let file = (input {R = g.row.R.Denot} g.R.Read.remaining g.R.Link.has_failed c.args.file.now c.run_to_log.new.file) in
    let asked = sweep_run c.args.config c.args.budget file in
    let r = subst (λ e. IsSomeEndedRun asked e c.in_ok-log.log) c.in-Over.is c.in_ok-log.ensures.run_to_log in
    let run = r.1.ended.whole in
    IfOk-weaker c.print_run.result _ _
    (run_printed c.args.config r.0 c.in_ok-log.log run.opens run.replay (by_sweep asked) refl r.1
    (trace_output {T = g.row.T.Denot} g.T.Write.contents c.args.trace.now c.print_run.new.trace)
    (output {W = g.row.W.Denot} g.W.Write.contents g.W.Link.has_failed c.args.out.now c.print_run.new.out))
    c.print_run.ensures.reported

pub returns-in-Over-clause-fault : goal.returns-in-Over-clause-fault
returns-in-Over-clause-fault g c =
    let file = (input {R = g.row.R.Denot} g.R.Read.remaining g.R.Link.has_failed c.args.file.now c.run_to_log.new.file) in
    let asked = sweep_run c.args.config c.args.budget file in
    let r = subst (λ e. IsSomeEndedRun asked e c.in_ok-log.log) c.in-Over.is c.in_ok-log.ensures.run_to_log in
    let run = r.1.ended.whole in
    IfErr-weaker c.print_run.result _ _
    (over_ends c.args.config r.0 c.in_ok-log.log run.opens run.replay (by_sweep asked) (unfinished_by_sweep asked)
    (trace_output {T = g.row.T.Denot} g.T.Write.contents c.args.trace.now c.print_run.new.trace)
    (output {W = g.row.W.Denot} g.W.Write.contents g.W.Link.has_failed c.args.out.now c.print_run.new.out) c.args.unfinished refl r.1 tt)
    c.print_run.ensures.fault

pub returns-in-Over-clause-silent : goal.returns-in-Over-clause-silent
returns-in-Over-clause-silent g c = silent_of c.print_run.result c.args.unfinished _ c.print_run.ensures.silent

pub returns-clause-fault : goal.returns-clause-fault
returns-clause-fault g c =
    let file = (input {R = g.row.R.Denot} g.R.Read.remaining g.R.Link.has_failed c.args.file.now c.run_to_log.new.file) in
    let asked = sweep_run c.args.config c.args.budget file in
    let r = subst (λ e. IsSomeEndedRun asked e c.in_ok-log.log) c.in-Budget.is c.in_ok-log.ensures.run_to_log in
    let run = r.1.ended.whole in
    let trace = trace_output {T = g.row.T.Denot} g.T.Write.contents c.args.trace.now c.print_unfinished.new.trace in
    let out = output {W = g.row.W.Denot} g.W.Write.contents g.W.Link.has_failed c.args.out.now c.print_unfinished.new.out in
    let both = subst (λ e. is_reported c.args.unfinished e ≡ true) c.in-Budget.is c.in_ok-log.ensures.wanted in
    subst (λ b. EndsInFault b (by_sweep asked) (unfinished_by_sweep asked) trace out c.print_unfinished.result) (sym both)
    (printed_ends c.args.config r.0 c.in_ok-log.log run.opens run.replay (by_sweep asked) (unfinished_by_sweep asked) trace out refl r.1 refl
    c.print_unfinished.result c.print_unfinished.ensures.fault)

pub returns-clause-failed : goal.returns-clause-failed
returns-clause-failed g c = as_error _ c.print_unfinished.result _ _ refl c.print_unfinished.ensures.failed

pub returns-clause-silent : goal.returns-clause-silent
returns-clause-silent g c =
    let both = subst (λ e. is_reported c.args.unfinished e ≡ true) c.in-Budget.is c.in_ok-log.ensures.wanted in
    silent_but c.args.unfinished _ c.print_unfinished.result both c.print_unfinished.ensures.silent

pub returns-in_err-log-clause-fault : goal.returns-in_err-log-clause-fault
returns-in_err-log-clause-fault g c =
    let file = (input {R = g.row.R.Denot} g.R.Read.remaining g.R.Link.has_failed c.args.file.now c.run_to_log.new.file) in
    let asked = sweep_run c.args.config c.args.budget file in
    let trace = trace_output {T = g.row.T.Denot} g.T.Write.contents c.args.trace.now c.args.trace.now in
    let out = output {W = g.row.W.Denot} g.W.Write.contents g.W.Link.has_failed c.args.out.now c.args.out.now in
    let p = err_from_is_err_and c.from_residual.result c.from_residual.ensures.1 in
    let fails = c.in_err-log.ensures.refused in
    let f = c.in_err-log.field-0.0 in
    rw (p.1, p.2) (ends (by_sweep asked) (unfinished_by_sweep asked) trace out c.args.unfinished f fails.budget
    (run_fails (by_sweep asked) trace out refl (most_of c.args.budget) asked (λ f p. p) f fails.cause))
