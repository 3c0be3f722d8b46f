use Rattle.std.proofs.Common.{[], ◌∷◌, ◌++◌, sym, ◌∙◌}
use Rattle.processor_threads.proofs.Reported.{cancelled_alone}
use Rattle.processor_threads.proofs.run.run_threads.Goals as goal

pub returns-in-Ok-new-clause-cancelled : goal.returns-in-Ok-new-clause-cancelled
returns-in-Ok-new-clause-cancelled g c is =
    let made = c.run_made.result in
    cancelled_alone (made.faults.items ++ made.listener ∷ []) (sym c.run_made.ensures.fault ∙ is)
