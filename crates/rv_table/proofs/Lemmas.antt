-- The only proofs that crates above may cite.

-- The table reads a word as the instruction that it spells.
pub use Rattle.rv_table.proofs.Reading.{read_fits}
