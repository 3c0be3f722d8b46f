use Rattle.std.specs.Prelude.{string_bytes}
use Rattle.run_reports.proofs.FlatReports.{report_is_of}
use Rattle.run_reports.proofs.reporting.report_with_status.Goals as goal

pub returns-clause-report : goal.returns-clause-report
returns-clause-report c = λ size image steps opening opens sound taken idle.
    let machine = c.args.machine.now in
    let serialized = c.runs_are_serialized.ensures.each opening steps machine sound opens.idle c.machine_is_well_formed.ensures taken.replay.run in
    report_is_of size image steps opening machine c.args.tally.now opens taken idle serialized (string_bytes c.in_ok-text.text) c.exit_status.result
    c.in_ok-text.ensures c.exit_status.ensures
