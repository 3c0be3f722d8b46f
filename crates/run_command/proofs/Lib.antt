pub mod Budgets
pub mod Running
pub mod OneRun
pub mod Consoles
pub mod Logging
pub mod Sizes
pub mod Counting
pub mod WithoutLog
