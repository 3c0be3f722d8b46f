use Rattle.std.proofs.Common.{◌∙◌}
use Rattle.hunt_command.specs.Runs.{HasRunAtRandom}
use Rattle.hunt_command.proofs.Recorded.{run_has_records}
use Rattle.hunt_command.proofs.running.run.Goals as goal

pub returns : goal.returns
returns c =
    let old = c.args.log.now.log in
    let new = c.drain.new.self.log in
    let asked = c.in-Ok.ensures.asked in
    let ran : HasRunAtRandom c.args.number c.args.policy old c.in-Ok.end new =
    record {
      middle = c.ask_by_number.new.log.log;
      asked = asked;
      opening = c.drain.ensures.opening ∙ asked.opening;
      steps = c.drain.ensures.entered;
      idle = c.drain.ensures.drained.idle;
    } in
    record {
      ran = ran;
      records = run_has_records c.args.number c.args.policy old c.in-Ok.end new ran c.reserved_log_is_well_formed-2.ensures.replay
          c.reserved_log_is_well_formed.ensures.replay.run.config;
    }
