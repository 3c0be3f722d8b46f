pub mod Switches
pub mod Changes
pub mod SecondReplies
pub mod Kept
pub mod Offers
pub mod Forms
pub mod Replies
pub mod Moves
pub mod Empty
pub mod New
pub mod Names
pub mod Offering
pub mod Answering
pub mod Taken
pub mod Naming
mod Elsewhere
mod Indexing
mod Looking
pub mod Lemmas
