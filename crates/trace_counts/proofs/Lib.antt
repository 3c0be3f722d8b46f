pub mod LatencyRuns
mod Growing
mod Passing
pub mod QueueRuns
pub mod StatsSteps
