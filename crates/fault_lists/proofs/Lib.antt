pub mod FaultLines
pub mod FirstLines
pub mod TwiceLabels
pub mod Found
pub mod Present
pub mod Lemmas
