pub mod Rounds
pub mod Witnesses
pub mod Refusals
pub mod Reports
