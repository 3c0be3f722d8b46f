pub mod Feeding
pub mod Staying
