use Rattle.run_command.proofs.OneRun.{one_run}
use Rattle.run_command.proofs.laws.runs_have_one_report.Goals as goal

pub returns : goal.returns
returns c config budget file steps others text other status another =
    one_run c.input_means_one_layout.ensures c.runs_have_one_log.ensures c.steps_have_one_report.ensures config file steps others text other status another
    budget
