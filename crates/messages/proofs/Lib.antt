pub mod Nothing
pub mod Places
pub mod Combinations
pub mod Joining
pub mod Answering
pub mod AnsweredSeconds
pub mod Lemmas
