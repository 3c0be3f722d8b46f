use Rattle.machine_steps.specs.Draining.{drain_steps}
use Rattle.run_reports.proofs.TakenAgain.{drain_replayed}
use Rattle.run_reports.proofs.taking.drain_counted.Goals as goal

pub returns-clause-taken : goal.returns-clause-taken
returns-clause-taken c opening steps r =
    let m = c.args.machine.now in
    drain_replayed opening m c.drain_observed.new.self steps (drain_steps m) c.args.tally.now c.drain_observed.new.observer r
    c.in_ok-drain_observed.ensures.replay
    c.in_ok-drain_observed.ensures.observed
