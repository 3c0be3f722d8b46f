pub mod Listing
pub mod Words
pub mod ObservedParts
pub mod PartLaws
pub mod Comparing
pub mod Matching
pub mod Filtering
