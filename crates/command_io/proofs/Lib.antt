pub mod Writing
pub mod Outcomes
pub mod Lemmas
