pub mod HexText
pub mod Refused
pub mod Report
pub mod Running
pub mod Loading
pub mod Command
pub mod Faults
