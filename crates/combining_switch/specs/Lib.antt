pub mod Outputs
pub mod Accepting
pub mod Partners
pub mod Switches
pub mod Links
pub mod Walks
pub mod Pools
pub mod Cells
