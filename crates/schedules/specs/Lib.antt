pub mod Rounds
pub mod Skips
pub mod Sweeps
pub mod Takers
pub mod Choices
-- Words of lower crates, passed on to those above.
pub use Rattle.trace_file.specs as trace_file
