pub mod Lists
pub mod Lines
pub mod Parts
pub mod Outcomes
pub mod Filters
