use Rattle.run_reports.proofs.OneReport.{one_text, one_status}
use Rattle.run_reports.proofs.laws.steps_have_one_report.Goals as goal

pub returns : goal.returns
returns c size image steps text other status another one two =
    (one_text size image steps text other status another one two, one_status size image steps text other status another one two)
