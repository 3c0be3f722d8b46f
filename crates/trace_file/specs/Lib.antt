pub mod Records
pub mod Traces
pub mod Faults
pub mod Reading
pub mod Laws
