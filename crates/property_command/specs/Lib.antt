pub mod Counterexamples
pub mod Judging
