pub mod Words
pub mod Advice
pub mod Lines
pub mod Faults
