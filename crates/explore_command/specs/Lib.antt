pub mod Lassos
pub mod Explorations
pub mod Causes
pub mod Parts
pub mod Sizes
