pub mod Cutting
pub mod Ranking
pub mod Walking
pub mod Scheduling
pub mod Resulting
pub mod Shortest
pub mod Between
