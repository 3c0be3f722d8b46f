use Rattle.hunt_command.proofs.OneRun.{one_run}
use Rattle.hunt_command.proofs.laws.random_runs_have_one_log.Goals as goal

pub returns : goal.returns
returns c = one_run
