pub mod Roles
pub mod Giving
pub mod Meaning
pub mod Changes
pub mod Paths
-- Definitions of lower crates, passed on to those above.
pub use Rattle.messages.specs.phi_algebra as phi_algebra
pub use Rattle.omega_wires.specs as omega_wires
pub use Rattle.messages.specs as messages
