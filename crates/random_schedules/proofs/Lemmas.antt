-- The lemmas that crates above may cite: they name no other file of these proofs.

-- No step of a random schedule is a poke.
pub use Rattle.random_schedules.proofs.Turns.{no_poke_schedule}
