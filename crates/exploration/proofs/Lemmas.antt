-- Lemmas that crates above cite.

-- What is read of a machine before a search, and what is known if the search gives up.
pub use Rattle.exploration.proofs.Exploring.{are_read, few_processors, flat_is, of_extent, wide}
pub use Rattle.exploration.proofs.Exploring.{moves_refuse, refusal_stands, some_states}
-- The results of what is kept of local states.
pub use Rattle.exploration.proofs.Endings.{all_results, kept_result}
