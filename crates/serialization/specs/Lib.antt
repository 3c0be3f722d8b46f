pub mod Program
pub mod Machine
pub mod Steadiness
pub mod Draining
pub mod Order
pub mod Simulation
pub mod Serialization
-- Definitions of lower crates, passed on to those above.
pub use Rattle.network_theory.specs.phi_algebra as phi_algebra
pub use Rattle.network_theory.specs.omega_wires as omega_wires
pub use Rattle.network_theory.specs.messages as messages
pub use Rattle.network_theory.specs as network_theory
