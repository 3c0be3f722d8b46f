use Rattle.std.proofs.Common.{refl, sym, subst}
use Rattle.machine_steps.specs.Noting.{AreNoted}
use Rattle.machine_log.specs.Logs.{Log}
use Rattle.run_reports.proofs.Lemmas.{StepObserver}
use Rattle.hunt_command.proofs.running.observed_run.Goals as goal

pub returns-in-Ok-ask_by_number-clause-noted : goal.returns-in-Ok-ask_by_number-clause-noted
returns-in-Ok-ask_by_number-clause-noted c =
    let tally = c.args.tally.now in
    subst (λ (l : Log). AreNoted StepObserver l.opening c.ask_by_number.new.log.log.steps tally c.ask_by_number.new.observer) c.in-Ok.ensures.log
    (c.in-Ok-ask_by_number.ensures.noted
    (subst (λ (l : Log). AreNoted StepObserver l.opening l.steps tally tally) (sym c.in-Ok.ensures.log)
    (subst (λ xs. AreNoted StepObserver c.args.log.now.opening xs tally tally) (sym c.requires.none) refl)))
