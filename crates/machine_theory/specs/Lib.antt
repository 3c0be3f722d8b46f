pub mod Theory
pub mod Processors
pub mod Cores
pub mod FlatSizes
pub mod Steps
pub mod Turning
pub mod Order
pub mod Flatness
pub mod Explained
pub mod Loans
pub mod Laws
-- Definitions of lower crates, passed on to those above.
pub use Rattle.serialization.specs.network_theory as network_theory
pub use Rattle.serialization.specs as serialization
