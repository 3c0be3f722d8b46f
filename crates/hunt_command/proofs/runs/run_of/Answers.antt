use Rattle.hunt_command.proofs.RunsOfSchedules.{log_of}
use Rattle.hunt_command.proofs.runs.run_of.Goals as goal

pub returns-clause-ran : goal.returns-clause-ran
returns-clause-ran c =
    log_of c.args.config c.args.policy c.args.number c.args.image.now c.in_ok-machine_of_copy.field-0
    c.in_ok-machine_of_copy.ensures.opening c.new-log.result c.random_run.new.log c.new-log.ensures
    c.log_is_well_formed.ensures.kept c.in-Ok.end c.in-Ok.ensures.ran c.in-Ok.ensures.records
