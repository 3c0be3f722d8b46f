pub mod Ports
-- Definitions of lower crates, re-exported for those above.
pub use Rattle.flat_machine.specs as flat_machine
pub use Rattle.hart.specs as hart
