pub mod Networks
pub mod Answers
pub mod Index
-- Definitions of lower crates, re-exported for those above.
pub use Rattle.omega_wires.specs as omega_wires
