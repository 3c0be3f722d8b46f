-- The lemmas that crates above may cite: they name no other file of these proofs.

-- Steps that are taken and entered, one after another.
pub use Rattle.machine_log.proofs.Taking.{entered_length, entered_moving, entered_one, kept_after, kept_home}
-- Ports with all cores back.
pub use Rattle.machine_log.proofs.Backing.{back_at, replicate_none}
-- All machines that open on one image are the same: a step that one of them has taken does not stall in another.
pub use Rattle.machine_log.proofs.OneOpening.{none_stalls}
