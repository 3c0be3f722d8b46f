pub mod Finding
pub mod Reached
pub mod Rows
pub mod Viewed
