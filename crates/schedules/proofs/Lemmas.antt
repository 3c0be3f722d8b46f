-- The lemmas that crates above may cite: they name no other file of these proofs.

-- What is entered of the steps asked for.
pub use Rattle.schedules.proofs.Asking.{asked_append, at_most_one, longer, none_asked, one_asked}
-- Whether a sweep is over, and after one more step.
pub use Rattle.schedules.proofs.Ending.{IsFirst, IsUnder, first_begins, has_running, none_faulted, not_over, runs_after}
pub use Rattle.schedules.proofs.RoundEnds.{step_first, step_over, step_under}
-- No step of a drain writes from outside; steps that do not, and do something, have records in a trace.
pub use Rattle.schedules.proofs.NoPoke.{no_poke_drain}
pub use Rattle.schedules.proofs.Recorded.{drained_has_records}
-- Two logs of one image, one of which is asked for the steps of the other and more.
pub use Rattle.schedules.proofs.Alike.{GoesOnFrom, HasEnded, WasAskedFor, goes_on}
-- Lemmas of lower crates, passed on.
pub use Rattle.steps.proofs.Lemmas as steps
pub use Rattle.trace_file.proofs.Lemmas as trace_file
pub use Rattle.machine_steps.proofs.Lemmas.messages.{put_other, put_same}
