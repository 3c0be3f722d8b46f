pub mod Listing
pub mod Growing
pub mod WholeRuns
pub mod Failing
