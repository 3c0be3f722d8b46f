-- The only proofs that crates above may cite.

-- Cells that stay free if a queue gets messages of other leaders.
pub use Rattle.combining_switch.proofs.Free.{free_of_replies, free_of_requests, one_or_other}
