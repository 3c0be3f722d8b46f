pub mod Consoles
pub mod Rounds
pub mod Faults
pub mod Endings
-- Words of lower crates, passed on to those above.
pub use Rattle.console_monitor.specs as console_monitor
