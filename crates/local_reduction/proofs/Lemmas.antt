-- The lemmas that crates above may cite: they name no other file of these proofs.

-- What other crates may cite of exchanges and of states that machines reach. Each lemma says in its file what it
-- shows.
pub use Rattle.local_reduction.proofs.Exchanging.{as_it_is, both, exchanged_back, may_exchanged, spinner_exchanged, back, none, trade, trade_all}
pub use Rattle.local_reduction.proofs.Numbers.{ask_not_more, reference_same}
pub use Rattle.local_reduction.proofs.Returning.{alone_both, goes_on_more, never_from, stands_quiet}
pub use Rattle.local_reduction.proofs.Results.{stands_for_back, stands_for_on}
pub use Rattle.local_reduction.proofs.OneTurn.{below, found_there, found_within, goes_alike, some_inj}
pub use Rattle.local_reduction.proofs.UpTo.{beside_all}
