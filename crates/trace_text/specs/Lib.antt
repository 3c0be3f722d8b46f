pub mod Texts
pub mod Words
pub mod Steps
pub mod Lines
pub mod Laws
pub mod Refusals
pub mod Commands
