pub mod Lists
pub mod Rows
pub mod Passes
pub mod Laws
