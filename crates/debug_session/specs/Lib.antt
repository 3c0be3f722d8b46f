pub mod Answers
pub mod Dialogues
pub mod Conversations
pub mod Runs
pub mod Breaks
pub mod Sweeps
pub mod Sessions
pub mod Listening
