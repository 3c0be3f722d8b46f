pub mod Paths
pub mod Changes
pub mod First
pub mod Lemmas
