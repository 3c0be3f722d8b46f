pub mod Parts
pub mod Options
pub mod Names
pub mod Rows
pub mod Elf
pub mod Text
pub mod Symbols
