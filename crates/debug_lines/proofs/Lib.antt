pub mod Reading
pub mod Digits
pub mod Operands
pub mod Spelled
