pub mod Breaking
pub mod Errors
pub mod Texts
pub mod Stops
