pub mod Errors
pub mod Headers
pub mod Regions
pub mod Refusals
pub mod Segments
pub mod Images
pub mod Loading
pub mod Spellings
pub mod Openings
pub mod Files
pub mod Laws
-- Definitions of lower crates, re-exported for those above.
pub use Rattle.local_memory.specs as local_memory
