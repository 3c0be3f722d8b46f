pub mod Ranges
pub mod Functions
pub mod Composition
pub mod Laws
