use Rattle.std.proofs.lemmas.Result.{IfOk-at_ok}
use Rattle.study_command.proofs.WholeRuns.{whole_run}
use Rattle.study_command.proofs.running.run_of.Goals as goal

pub returns-in-Ok-clause-run : goal.returns-in-Ok-clause-run
returns-in-Ok-clause-run c =
    whole_run c.args.config c.args.budget c.args.image.now c.in_ok-machine_of_copy.field-0 c.in_ok-machine_of_copy.ensures.opening c.new-log.result
    c.follow_sweep-ended.new.log c.new-log.ensures c.log_is_well_formed.ensures.kept c.in-Ok.end
    (IfOk-at_ok _ c.in-Ok.is c.follow_sweep-ended.ensures.swept)
