-- The lemmas that crates above may cite.

-- Places of lists, and lists of a function's values at each place.
pub use Rattle.state_store.proofs.Listed.{up_to, there, found_at, past, any_default, mapped_at}
pub use Rattle.state_store.proofs.Listed.{listed, listed_at, listed_there, listed_is, listed_same, listed_set}
-- Tables that grow, and what rows of the old tables mean in the grown ones.
pub use Rattle.state_store.proofs.Growing.{kept_all, kept_on, means_kept, row_kept}
-- Different rows mean different states.
pub use Rattle.state_store.proofs.Differing.{one_place, rows_differ, rows_same}
-- Lemmas of lower crates, passed on to those above.
pub use Rattle.local_reduction.proofs.Lemmas as local_reduction
