-- The lemmas that crates above may cite: they name no other file of these proofs.

-- References to shared words: they are aligned, and the part of all four bytes is the whole word.
pub use Rattle.hart.proofs.References.{whole_change}
-- The function of the table means what the instruction does to the word.
pub use Rattle.hart.proofs.Meanings.{add_meaning, amo_small, and_meaning, load_meaning, max_meaning, maxu_meaning}
pub use Rattle.hart.proofs.Meanings.{min_meaning, minu_meaning, or_meaning, store_meaning, swap_meaning, xor_meaning}
