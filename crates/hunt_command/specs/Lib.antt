pub mod Lines
pub mod Findings
pub mod Hunts
pub mod Traces
pub mod Runs
pub mod Taken
