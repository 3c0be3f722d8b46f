use Rattle.state_graph.proofs.Scheduling.{verdict_is}
use Rattle.state_graph.proofs.laws.successors_decide_termination.Goals as goal

pub returns : goal.returns
returns c = record {
  termination_claim = λ at code kept classes state count moves m consoles termination_claim f h reached reaches.
      verdict_is at code kept classes state count moves h m consoles reaches f reached
      c.sets_closed_up_to_contain_all_final_states.ensures.ends c.sets_closed_up_to_are_not_left.ensures.stays
      c.moves_up_to_are_turns.ensures.turns c.short_up_to_schedules_end.ensures.ends termination_claim;
}
