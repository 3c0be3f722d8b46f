-- The lemmas that crates above may cite. They name no other file of these proofs.

-- The log of a run can be reported, and its report is that of the run.
pub use Rattle.run_reports.proofs.Logging.{is_spelled, only_memory}
pub use Rattle.run_reports.proofs.LogReports.{can_be_reported, no_run, run_printed}
-- The tally that has noted the steps of a run has what the processors show in them.
pub use Rattle.run_reports.proofs.TakenAgain.{StepObserver, all_replayed, was_made}
-- Lemmas of lower crates, passed on.
pub use Rattle.machine_log.proofs.Lemmas.{none_stalls}
