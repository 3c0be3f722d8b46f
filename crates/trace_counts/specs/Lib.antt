pub mod Longest
pub mod Stats
pub mod Latencies
pub mod QueueLengths
-- Definitions of reports on traces, passed on to the crates above.
pub use Rattle.trace_commands.specs as trace_commands
