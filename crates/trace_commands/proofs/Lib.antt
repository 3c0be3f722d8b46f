pub mod OfTraces
pub mod Statuses
pub mod Answering
pub mod Words
pub mod OrderTelling
pub mod Orders
pub mod StorySteps
pub mod Lemmas
