pub mod Placed
pub mod Saved
pub mod SparseWords
pub mod SparseWordLaws
pub mod Keys
pub mod KeyLaws
pub mod StateTables
pub mod TransitionCache
pub mod Moves
pub mod Opening
-- Definitions of lower crates, passed on to those above.
pub use Rattle.local_reduction.specs as local_reduction
