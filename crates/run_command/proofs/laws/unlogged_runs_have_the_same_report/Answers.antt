use Rattle.run_command.proofs.OneRun.{same_run}
use Rattle.run_command.proofs.laws.unlogged_runs_have_the_same_report.Goals as goal

pub returns : goal.returns
returns c config budget larger file steps others text other status another =
    same_run c.input_means_one_layout.ensures c.runs_have_one_log.ensures c.steps_have_one_report.ensures config file steps others text other status another
    budget larger
