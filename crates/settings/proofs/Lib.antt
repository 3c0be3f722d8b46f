pub mod Complete
pub mod Getters
pub mod NoHelp
pub mod Numbers
pub mod Plain
pub mod Rows
pub mod Walks
