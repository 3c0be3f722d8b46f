pub mod Limits
pub mod Sizes
pub mod State
pub mod Words
pub mod Operations
pub mod Effects
pub mod Memory
pub mod Turns
pub mod Flat
pub mod Laws
-- Definitions of lower crates, re-exported for those above.
pub use Rattle.rv_table.specs as rv_table
