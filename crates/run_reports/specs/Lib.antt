pub mod CountedReplays
pub mod InMemory
pub mod Reports
pub mod RunReports
pub mod Causes
