-- The only proofs that crates above may cite.

-- Functions of places with one place changed, and elements of lists.
pub use Rattle.messages.proofs.Places.{ApartBy-filter, ApartBy-middle, ApartBy-push, ApartBy-same, Distinct-append}
pub use Rattle.messages.proofs.Places.{In-append, In-append_left, In-append_right, In-filter, In-map, In-map_from}
pub use Rattle.messages.proofs.Places.{In-put2, at_put2, each_put2, filter_none, is_put2, put2_comm, put2_id}
pub use Rattle.messages.proofs.Places.{put2_other, put2_same, put_other, put_same}
-- The entry with which a request combines, by its place, as a loop over the queue finds it.
pub use Rattle.messages.proofs.Combinations.{NoneBefore, combined_at, combined_nowhere, joint_fewer}
-- What a combination consists of.
pub use Rattle.messages.proofs.Joining.{Joins, combination_joins}
-- The leaders of the replies that one reply gives, and what one more record adds.
pub use Rattle.messages.proofs.Answering.{from_answers, in_range, left_less, taken_more}
-- Lemmas of lower crates, re-exported for those above.
pub use Rattle.phi_algebra.proofs.Lemmas as phi_algebra
