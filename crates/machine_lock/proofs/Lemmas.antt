-- The lemmas that crates above may cite: they name no other file of these proofs.

-- What threads share crosses them.
pub use Rattle.machine_lock.proofs.Crosses.{Shared-sync}
-- Passes stay those of all processors, in order, if one is replaced by another one of the same processor.
pub use Rattle.machine_lock.proofs.Fitting.{whole_set}
