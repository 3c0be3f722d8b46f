pub mod References
pub mod Decisions
pub mod Parts
pub mod Meanings
pub mod Bytes
mod Going
mod Turning
pub mod Lemmas
