pub mod Functions
pub mod References
pub mod Away
pub mod Lemmas
