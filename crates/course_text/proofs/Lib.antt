pub mod Loops
pub mod Positions
pub mod Replacing
pub mod Lines
pub mod Staying
pub mod Defining
