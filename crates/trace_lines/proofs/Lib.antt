pub mod Turns
pub mod OrderGoing
pub mod StoryGoing
