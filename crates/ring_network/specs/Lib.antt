pub mod Changes
pub mod Networks
pub mod Offers
pub mod Outputs
pub mod Partners
pub mod Switches
