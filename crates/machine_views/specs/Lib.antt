pub mod Groups
pub mod Places
pub mod Views
pub mod Subjects
pub mod Values
pub mod Names
pub mod Texts
pub mod Cells
-- Definitions of lower crates, passed on to those above.
pub use Rattle.command_io.specs as command_io
