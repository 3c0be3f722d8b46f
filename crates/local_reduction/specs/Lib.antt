pub mod LocalStates
pub mod Closing
pub mod Termination
pub mod Exchanging
pub mod Results
pub mod Laws
pub mod Live
pub mod Forgetting
-- Definitions of lower crates, passed on to those above.
pub use Rattle.flat_machine.specs as flat_machine
