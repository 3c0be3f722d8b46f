-- The lemmas that crates above may cite: they name no other file of these proofs.

-- Why steps are not taken.
pub use Rattle.witness_traces.proofs.Refusing.{log_refuses, steps_refuse}
