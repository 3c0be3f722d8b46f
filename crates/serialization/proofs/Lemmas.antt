-- The lemmas that crates above may cite: they name no other file of these proofs.

-- A drain ends, within its bound.
pub use Rattle.serialization.proofs.Drained.{drain_ends, drain_is_short, drained, idle_names_none, steady_after}
-- The step that a drain takes next does not stall.
pub use Rattle.serialization.proofs.Draining.{bound, bound_alone, distances_are, drain_is}
-- The least and the greatest number that pass a test.
pub use Rattle.serialization.proofs.Least.{LeastIs, least_is}
-- Each step keeps a machine steady, and each move brings a reference nearer to its end.
pub use Rattle.serialization.proofs.Steadying.{all_shut_is, goes_step, steady_start}
-- What a run that follows the flat machine says of the machine at each moment.
pub use Rattle.serialization.proofs.Moments.{at_the_moment}
-- Each reference is served once, by the outcomes alone.
pub use Rattle.serialization.proofs.Once.{served_once}
-- The machine is the flat machine after the order, at each moment.
pub use Rattle.serialization.proofs.Serial.{follows}
-- Lemmas of lower crates, passed on to those above.
pub use Rattle.network_theory.proofs.Lemmas.omega_wires as omega_wires
pub use Rattle.network_theory.proofs.Lemmas.messages as messages
pub use Rattle.network_theory.proofs.Lemmas as network_theory
