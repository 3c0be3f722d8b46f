-- The lemmas that crates above may cite.
-- The lines from the ith on are that line and those after it.
pub use Rattle.fault_lists.proofs.Found.{at_item}
