pub mod Rows
pub mod Search
pub mod Ends
pub mod Refusals
pub mod Targets
-- Definitions of lower crates, passed on to those above.
pub use Rattle.state_store.specs as state_store
