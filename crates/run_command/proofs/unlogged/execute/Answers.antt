use Rattle.std.proofs.Common.{◌≡◌, true, refl, sym, subst}
use Rattle.std.specs.Prelude.{string_bytes}
use Rattle.std.specs.Io.KnownBytes.{Appends}
use Rattle.std.proofs.lemmas.Result.{err_from_is_err_and}
use Rattle.link.specs.Transfer.{AppendsPart}
use Rattle.command_io.specs.declared.fault.Fault.TheVariants as fault
use Rattle.command_io.specs.Links.{input, output}
use Rattle.run_command.specs.SweepRuns.{IsSomeReport, ended_without_log, most_unlogged, no_trace, sweep_run, unfinished_without_log, without_log}
use Rattle.run_command.specs.UnfinishedRuns.{EndsInFault, is_reported}
use Rattle.run_command.proofs.Budgets.{ends}
use Rattle.run_command.proofs.Running.{run_fails}
use Rattle.run_command.proofs.WithoutLog.{cut_ends, run_report}
use Rattle.run_command.proofs.unlogged.execute.Goals as goal

pub returns-in-Over-clause-reported : goal.returns-in-Over-clause-reported
returns-in-Over-clause-reported g c =
    let file = (input {R = g.row.R.Denot} g.R.Read.remaining g.R.Link.has_failed c.args.file.now c.report_run.new.file) in
    let asked = sweep_run c.args.config c.args.budget file in
    let done = c.in_ok-text in
    let r = subst (λ e. IsSomeReport (ended_without_log e asked) (string_bytes done.text) done.status) c.in-Over.is done.ensures.reported in
    record {
      text = string_bytes done.text;
      meant = run_report (without_log asked) (string_bytes done.text) done.status r;
      printed = subst (λ bytes. Appends (g.W.Write.contents c.args.out.now) (g.W.Write.contents c.print.new.out) bytes) c.as_str.ensures.value
          c.in_ok-print.ensures.printed;
    }

pub returns-clause-fault : goal.returns-clause-fault
returns-clause-fault g c =
    let file = (input {R = g.row.R.Denot} g.R.Read.remaining g.R.Link.has_failed c.args.file.now c.report_run.new.file) in
    let asked = sweep_run c.args.config c.args.budget file in
    let done = c.in_ok-text in
    let out = output {W = g.row.W.Denot} g.W.Write.contents g.W.Link.has_failed c.args.out.now c.print.new.out in
    let r = subst (λ e. IsSomeReport (ended_without_log e asked) (string_bytes done.text) done.status) c.in-Budget.is done.ensures.reported in
    let both = subst (λ e. is_reported c.args.unfinished e ≡ true) c.in-Budget.is done.ensures.wanted in
    subst (λ b. EndsInFault b (without_log asked) (unfinished_without_log asked) no_trace out fault.Budget) (sym both) (
      done.status,
      record {
        text = string_bytes done.text;
        meant = run_report (unfinished_without_log asked) (string_bytes done.text) done.status r;
        printed = subst (λ bytes. Appends (g.W.Write.contents c.args.out.now) (g.W.Write.contents c.print.new.out) bytes) c.as_str.ensures.value
            c.in_ok-print.ensures.printed;
      },
    )

pub returns-in_err-text-clause-fault : goal.returns-in_err-text-clause-fault
returns-in_err-text-clause-fault g c =
    let file = (input {R = g.row.R.Denot} g.R.Read.remaining g.R.Link.has_failed c.args.file.now c.report_run.new.file) in
    let asked = sweep_run c.args.config c.args.budget file in
    let out = (output {W = g.row.W.Denot} g.W.Write.contents g.W.Link.has_failed c.args.out.now c.args.out.now) in
    let p = err_from_is_err_and c.from_residual.result c.from_residual.ensures.1 in
    let fails = c.in_err-text.ensures.refused in
    rw (p.1, p.2) (ends (without_log asked) (unfinished_without_log asked) no_trace out c.args.unfinished c.in_err-text.field-0.0 fails.budget
    (run_fails (without_log asked) no_trace out refl (most_unlogged c.args.budget) asked (λ f p. p) c.in_err-text.field-0.0 fails.cause))

pub returns-in_err-print-clause-fault : goal.returns-in_err-print-clause-fault
returns-in_err-print-clause-fault g c =
    let file = (input {R = g.row.R.Denot} g.R.Read.remaining g.R.Link.has_failed c.args.file.now c.report_run.new.file) in
    let asked = sweep_run c.args.config c.args.budget file in
    let done = c.in_ok-text in
    let out = output {W = g.row.W.Denot} g.W.Write.contents g.W.Link.has_failed c.args.out.now c.print.new.out in
    let p = err_from_is_err_and c.from_residual-in_err-print.result c.from_residual-in_err-print.ensures.1 in
    let f = c.in_err-print.ensures.begun in
    rw (p.1, p.2, f.0)
    (cut_ends asked out c.args.unfinished done.end done.ensures.wanted
    (record {
      text = string_bytes done.text;
      meant = (done.status, run_report (ended_without_log done.end asked) (string_bytes done.text) done.status done.ensures.reported);
      part = subst (λ bytes. AppendsPart (g.W.Write.contents c.args.out.now) (g.W.Write.contents c.print.new.out) bytes) c.as_str.ensures.value f.1;
    }))

pub returns-in_err-print-clause-failed : goal.returns-in_err-print-clause-failed
returns-in_err-print-clause-failed g c =
    let p = err_from_is_err_and c.from_residual-in_err-print.result c.from_residual-in_err-print.ensures.1 in
    let f = c.in_err-print.ensures.begun in
    rw (p.1, p.2, f.0) ((λ e. c.in_err-print.ensures.failed), (λ e. refl))
