pub mod Topics
pub mod Explaining
