pub mod Cuts
pub mod Fields
pub mod Found
pub mod Shapes
pub mod Parts
pub mod Numbers
-- Definitions of a lower crate, re-exported for those above.
pub use Rattle.json.specs as json
