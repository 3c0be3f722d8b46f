pub mod Lines
pub mod Places
pub mod Instructions
pub mod Decimals
pub mod Names
pub mod Csv
pub mod Subjects
pub mod Formats
-- Definitions of shapes, passed on to the crates above.
pub use Rattle.line_shapes.specs as line_shapes
