-- The only proofs that crates above may cite.

-- What an access reads and writes is in range: bytes, words, and parts of words.
pub use Rattle.flat_machine.proofs.Accesses.{number_small, shared_region, store_inside, with_part_small}
-- Words stay words, in a turn, a step and a run.
pub use Rattle.flat_machine.proofs.InRange.{byte_words, register_words, step_in_range, turn_words}
-- Facts of processors that every run keeps.
pub use Rattle.flat_machine.proofs.Kept.{all_get}
-- Steps of other processors, and lists with one place written.
pub use Rattle.flat_machine.proofs.Steps.{set_other}
-- Instructions compute words from words.
pub use Rattle.flat_machine.proofs.Values.{register_small}
