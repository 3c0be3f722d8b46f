-- The lemmas that crates above may cite: they name no other file of these proofs.

-- What a kind of step is, and is not.
pub use Rattle.steps.proofs.StepKinds.{network_no_poke, network_no_turn, turn_is, turn_of_is_turn, turns_of_one}
-- Lists of steps none of which writes from outside: their parts, and longer lists.
pub use Rattle.steps.proofs.StepKinds.{no_poke_at, no_poke_both, no_poke_each, no_poke_front, no_poke_more, no_poke_parts}
pub use Rattle.steps.proofs.StepKinds.{no_poke_rest, no_poke_take}
