pub mod Places
pub mod Queues
pub mod Seconds
pub mod Network
pub mod Naming
pub mod Moves
pub mod Laws
-- Definitions of lower crates, re-exported for those above.
pub use Rattle.phi_algebra.specs as phi_algebra
