use Rattle.machine_steps.specs.Draining.{drain_steps}
use Rattle.run_reports.proofs.InMemory.{all_in_memory}
use Rattle.run_reports.proofs.taking.drain_tallied.Goals as goal

pub returns-clause-counted : goal.returns-clause-counted
returns-clause-counted c opening steps r =
    let m = c.args.machine.now in
    all_in_memory opening m c.drain_observed.new.self steps (drain_steps m) (record { tally = c.args.tally }) c.drain_observed.new.observer r
    c.in-Ok.ensures.replay c.in-Ok.ensures.observed
