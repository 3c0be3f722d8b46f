pub mod Places
pub mod Faults
pub mod WordAtFault
pub mod AdviceAtFault
-- Definitions of wrong words, passed on to the crates above.
pub use Rattle.word_faults.specs as word_faults
