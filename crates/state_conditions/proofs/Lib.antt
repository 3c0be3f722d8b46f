pub mod Finding
pub mod Exchanging
pub mod Listing
pub mod Parts
pub mod Numerals
pub mod Lemmas
