pub mod Strategies
pub mod Epochs
pub mod Schedules
pub mod Laws
