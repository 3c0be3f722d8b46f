-- The only proofs that crates above may cite.

-- A reference's function means the turn's change of the word.
pub use Rattle.machine_ports.proofs.References.{reference_means}
-- A core that is away refers to no word. Turns and writes from outside leave each core where it is.
pub use Rattle.machine_ports.proofs.Away.{no_reference, reaches_stays, register_stays, retires_stays}
-- Lemmas of lower crates, re-exported for those above.
pub use Rattle.flat_machine.proofs.Lemmas as flat_machine
