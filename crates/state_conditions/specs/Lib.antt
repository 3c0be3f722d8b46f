pub mod Conditions
pub mod Texts
pub mod Laws
pub mod Results
-- Definitions of lower crates, passed on to those above.
pub use Rattle.state_store.specs as state_store
