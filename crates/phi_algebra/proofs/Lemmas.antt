-- The only proofs that crates above may cite.

-- Laws of composition.
pub use Rattle.phi_algebra.proofs.Composed.{meaning_of, range_of}
-- What a composition means, and the functions that do not compose.
pub use Rattle.phi_algebra.proofs.Composing.{value_small}
