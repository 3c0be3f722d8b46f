mod Apart
mod Candidates
mod Formats
pub mod Reading
pub mod Lemmas
