use Rattle.std.proofs.Common.{◌++◌}
use Rattle.machine_steps.specs.Draining.{drain_steps}
use Rattle.machine_steps.proofs.Lemmas.{run_home}
use Rattle.trace_commands.proofs.replay.ReportTraceReport.text.Goals as goal

pub report_with_status-requires-clause-home : goal.report_with_status-requires-clause-home
report_with_status-requires-clause-home c =
    let opening = c.in_ok-machine.machine in
    let opens = c.in_ok-machine.ensures.opening in
    let all = c.in_ok-drain_counted.ensures.taken opening c.args.steps.now c.in_ok-tally.ensures.taken in
    run_home opening c.drain_counted.new.machine (c.args.steps.now ++ drain_steps c.replay_counted.new.machine) all.replay.run opens.home

pub returns-clause-fault : goal.returns-clause-fault
returns-clause-fault c =
    let opening = c.in_ok-machine.machine in
    let opens = c.in_ok-machine.ensures.opening in
    let taken = c.in_ok-tally.ensures.taken in
    let before = c.replay_counted.new.machine in
    let steps = c.args.steps.now ++ drain_steps before in
    let all = c.in_ok-drain_counted.ensures.taken opening c.args.steps.now taken in
    record {
      before = before;
      stands = record { opening = opening; opens = opens; replay = taken.replay };
      report = c.in_ok-report_with_status.ensures.report c.args.config c.args.image.now steps opening opens c.machine_is_well_formed.ensures all
          c.in_ok-drain_counted.ensures.idle;
    }
