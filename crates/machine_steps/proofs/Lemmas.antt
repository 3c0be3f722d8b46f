-- The lemmas that crates above may cite: they name no other file of these proofs.

-- The flat machine that the processors, words and code of a machine make.
pub use Rattle.machine_steps.proofs.Flattening.{all_shut, count_is, flat_is, none_past, past_end, sound, state_at, word_is}
-- What holds of every machine still holds if a port, a module or the network changes.
pub use Rattle.machine_steps.proofs.Keeping.{count_small, home_running, parts_kept}
-- Cores that are taken out and put in, and what is read if cores are at home.
pub use Rattle.machine_steps.proofs.Lending.{away_shut, core_put, home_there, put_is_machine, there_unless}
-- A step that stalls changes nothing.
pub use Rattle.machine_steps.proofs.Stalling.{keeps, observe_as, observed_again, stalled_keeps}
-- The parts with which a machine opens are the opening of its image.
pub use Rattle.machine_steps.proofs.Parts.{quotient_small, the_opening}
-- The next step of a drain, and where a drain ends.
pub use Rattle.machine_steps.proofs.Drained.{drain_is_bounded, goes_on, named_again, named_step, none_idle}
-- A machine in which no reference is open is the flat machine of its processors, words and code.
pub use Rattle.machine_steps.proofs.IdleMachines.{opens}
-- One processor alone has a reference open, and a drain retires it: only its entry is added to the order.
pub use Rattle.machine_steps.proofs.Lone.{FirstTurn, IsAnswered, IsAsking, IsLone, Named, drain_named, first_turn, goes_on as lone_goes_on, starts}
-- Runs and replays, one after another.
pub use Rattle.machine_steps.proofs.Cutting.{all_joined, replay_joined}
-- Steps that an observer sees, and the events of which their outcomes tell.
pub use Rattle.machine_steps.proofs.Noting.{listed, noted_after_run, noted_more}
pub use Rattle.machine_steps.proofs.Events.{steps_tell}
-- All machines that open on one image are the same.
pub use Rattle.machine_steps.proofs.OneOpening.{alike, drained_alike, same_code, same_config, same_machine}
-- Steps that find no message stall.
pub use Rattle.machine_steps.proofs.Quiet.{down_stalls, none_there, serve_stalls, turn_stalls, up_stalls}
-- Replays: runs in which each step does something.
pub use Rattle.machine_steps.proofs.Replaying.{outcome_there, replay_begins, replay_kept, replay_more, stalled_is}
-- Runs of the machine, and the theorem about them.
pub use Rattle.machine_steps.proofs.Running.{all_after_more, passes_machine, run_begins, run_more, serialized, shown_is}
-- After any steps, the same cores are away as before.
pub use Rattle.machine_steps.proofs.Staying.{run_home}
-- A machine begins with no answers, and each step that is taken next adds its outcome.
pub use Rattle.machine_steps.proofs.Answering.{answers_begin, answers_counted, answers_more}
-- Lemmas of lower crates, passed on to those above.
pub use Rattle.machine_ports.proofs.Lemmas as machine_ports
pub use Rattle.messages.proofs.Lemmas as messages
pub use Rattle.steps.proofs.Lemmas as steps
pub use Rattle.machine_theory.proofs.Lemmas.serialization as serialization
pub use Rattle.machine_theory.proofs.Lemmas as machine_theory
