-- The lemmas that crates above may cite: they name no other file of these proofs.

-- Reading a byte of padded bytes, and of zeros.
pub use Rattle.local_memory.proofs.Padded.{byte_of_padded, zero_of_replicate}
