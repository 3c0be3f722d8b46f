pub mod Single
pub mod Refining
