pub mod Logs
pub mod Lending
pub mod Lendings
pub mod Replays
-- Definitions of lower crates, passed on to those above.
pub use Rattle.machine_theory.specs as machine_theory
