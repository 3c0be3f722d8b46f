pub mod Machines
pub mod Readers
pub mod Openings
pub mod Serving
pub mod Poking
pub mod Seeing
pub mod AnsweringSeconds
pub mod Parts
pub mod Standing
pub mod Runs
pub mod Draining
pub mod Whole
pub mod Noting
pub mod Laws
pub mod Ordering
pub mod Answers
-- Definitions of lower crates, passed on to those above.
pub use Rattle.hart.specs as hart
pub use Rattle.machine_ports.specs as machine_ports
pub use Rattle.elf_image.specs as elf_image
pub use Rattle.messages.specs as messages
pub use Rattle.machine_theory.specs.network_theory as network_theory
pub use Rattle.omega_network.specs as omega_network
pub use Rattle.machine_theory.specs.serialization as serialization
pub use Rattle.steps.specs as steps
pub use Rattle.machine_theory.specs as machine_theory
