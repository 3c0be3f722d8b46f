pub mod Faults
pub mod Meaning
pub mod Passes
pub mod Openings
pub mod Parts
-- Words of lower crates, passed on to those above.
pub use Rattle.asm_lines.specs as asm_lines
