use Rattle.std.proofs.lemmas.Result.{IfErr-at_err, IfOk-at_ok}
use Rattle.command_io.proofs.Lemmas.{of_link, reports_with}
use Rattle.run_command.proofs.Budgets.{silent_or_printed}
use Rattle.run_command.proofs.threads.threaded_run_command.Goals as goal

pub returns-clause-reported : goal.returns-clause-reported
returns-clause-reported g c low = IfOk-at_ok _ (c.report_outcome.ensures.done low) c.execute-outcome.ensures.reported

pub returns-clause-fault : goal.returns-clause-fault
returns-clause-fault g c high =
    let outcome = c.execute-outcome.result in
    let e = c.execute-outcome.ensures in
    reports_with outcome _
    (λ f is. record {
      cause = IfErr-at_err _ is e.fault;
      unread = of_link outcome f _ _ is e.unread;
      unprinted = of_link outcome f _ _ is e.failed;
    })
    (c.report_outcome.ensures.fault high)

pub returns-clause-silent : goal.returns-clause-silent
returns-clause-silent g c high =
    let e = c.execute-outcome.ensures in
    let known = c.report_outcome.ensures.fault high in
    silent_or_printed _ _ _ _ known.refusal (IfErr-at_err _ known.cause e.fault) known.reported (IfErr-at_err _ known.cause e.silent)
