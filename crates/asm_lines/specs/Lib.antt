pub mod Text
pub mod Steps
pub mod Number
pub mod Names
pub mod Statements
pub mod Written
pub mod Alike
