-- The lemmas that crates above may cite: they name no other file of these proofs.

-- Steps that name places of the machine, and none of which writes from outside, have records.
pub use Rattle.trace_file.proofs.Within.{has_record, have_records}
