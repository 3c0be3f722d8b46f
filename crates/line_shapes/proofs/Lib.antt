pub mod Cutting
pub mod Digits
pub mod Writing
pub mod Reading
pub mod ObjectTokens
