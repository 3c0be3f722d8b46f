-- The lemmas that crates above may cite: they name no other file of these proofs.

-- Compositions of functions in range.
pub use Rattle.network_theory.proofs.Algebra.{applied_small}
-- What combining and answering do, as a whole.
pub use Rattle.network_theory.proofs.Changes.{answering_meaning, answering_places, answers_led, combining_meaning, combining_places}
-- A group executed one after another.
pub use Rattle.network_theory.proofs.Executing.{executed_mem, executed_other, put_agree}
-- What a reply gives, and what a group finds, after records and functions change.
pub use Rattle.network_theory.proofs.Giving.{gives_leads}
-- How single changes keep meanings.
pub use Rattle.network_theory.proofs.Meaning.{groups_change, groups_issue, groups_joined, groups_serve, joined_first}
pub use Rattle.network_theory.proofs.Meaning.{means_change, means_issue, means_nothing, means_pop_reply}
pub use Rattle.network_theory.proofs.Meaning.{means_pop_request, means_push_request, means_serve, request_further}
pub use Rattle.network_theory.proofs.Meaning.{request_led}
-- The records of a leader, after one buffer changes.
pub use Rattle.network_theory.proofs.Records.{records_drop_other, records_none, records_other_stage, records_path, records_push_other, records_push_same}
-- How single changes keep places.
pub use Rattle.network_theory.proofs.Roles.{below_role, combine, not_idle, not_led, others_request, placed_change}
pub use Rattle.network_theory.proofs.Roles.{placed_nowhere, pop_reply, pop_reply_unnamed, pop_request}
pub use Rattle.network_theory.proofs.Roles.{pop_request_unnamed, push_reply, push_request, small_put, replying_other}
pub use Rattle.network_theory.proofs.Roles.{unnamed_idle}
-- Lemmas of lower crates, passed on to those above.
pub use Rattle.omega_wires.proofs.Lemmas as omega_wires
pub use Rattle.messages.proofs.Lemmas as messages
