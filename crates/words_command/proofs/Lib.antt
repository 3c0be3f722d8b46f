pub mod Lines
pub mod Prefixes
pub mod Instructions
pub mod Reports
pub mod Loading
