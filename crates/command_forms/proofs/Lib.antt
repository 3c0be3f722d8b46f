pub mod Adding
pub mod Simple
pub mod Lemmas
