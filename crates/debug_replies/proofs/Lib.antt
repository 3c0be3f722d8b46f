pub mod Flags
pub mod Ranges
pub mod Halts
pub mod Smallest
pub mod Faulted
