-- The lemmas that crates above may cite. They name no other file of these proofs.

-- What a command reports of its result.
pub use Rattle.command_io.proofs.Outcomes.{of_link, reports_with}
