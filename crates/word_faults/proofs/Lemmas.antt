-- The lemmas that crates above may cite.

-- How texts are cut at their blanks and at a byte.
pub use Rattle.word_faults.proofs.Cutting.{RoundByte, cut_last_round, cut_round, trimmed_cut}
