pub mod Going
pub mod Order
pub mod Sizes
pub mod LatencySteps
pub mod Waiting
