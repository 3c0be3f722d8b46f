-- The lemmas that crates above may cite: they name no other file of these proofs.

-- A step leaves each core where it is.
pub use Rattle.machine_theory.proofs.Away.{away_in, cores_stay, ports_stay}
-- A lawful poke writes the same on the machine and on the flat machine.
pub use Rattle.machine_theory.proofs.FlatPokes.{lawful_same, lawful_writes, may_is_lawful, parts_of, size_written, written_agrees}
-- Moves of messages are steps of the machine.
pub use Rattle.machine_theory.proofs.MoveSteps.{goes_down, goes_up, no_stage_down, no_stage_up, no_wire_down, no_wire_up}
-- Writes from outside are steps of the machine.
pub use Rattle.machine_theory.proofs.PokeSteps.{are_home_is, byte_poked, home_all, not_home, not_idle, register_poked, shut_all, unlawful, word_poked}
-- Ports as functions of processors' numbers, after one of them changes.
pub use Rattle.machine_theory.proofs.PortSets.{core_changed, open_kept, put_self}
-- Cores put in places: the last one counts, and the machine stays steady.
pub use Rattle.machine_theory.proofs.Putting.{last_counts, put_swap, put_twice, stays_put, steady_with}
-- Lists as functions of places.
pub use Rattle.machine_theory.proofs.Reading.{found_within, read_found, read_none, read_set, observed_set}
-- Services are steps of the machine.
pub use Rattle.machine_theory.proofs.ServeSteps.{applied_word, no_module, no_place, no_request, serves, words_set}
-- What a steady machine has at its places, and that a step keeps it steady.
pub use Rattle.machine_theory.proofs.Standing.{at_its_module, refers, observed_again, slot_free, stays_steady, word_there}
-- What the kind of a processor's turn says of the turn.
pub use Rattle.machine_theory.proofs.TurnKinds.{reaches_of, runs_by}
-- Turns are steps of the machine.
pub use Rattle.machine_theory.proofs.TurnSteps.{begins, finishes, rests, unnamed}
-- One serial order of whole instructions explains a run.
pub use Rattle.machine_theory.proofs.Explaining.{runs_are_explained}
-- The flat machine on lists does what the theory's flat machine does.
pub use Rattle.machine_theory.proofs.Flat.{run_sound}
-- Processors keep their words in range, so the functions of their references are in range.
pub use Rattle.machine_theory.proofs.Good.{keeps, means_change}
-- All pokes in the order are lawful.
pub use Rattle.machine_theory.proofs.Lawful.{order_lawful}
-- Lemmas of lower crates, passed on to those above.
pub use Rattle.serialization.proofs.Lemmas.network_theory as network_theory
pub use Rattle.serialization.proofs.Lemmas as serialization
