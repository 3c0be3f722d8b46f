use Rattle.state_graph.proofs.Between.{found_reached, spinner_reached}
use Rattle.state_graph.proofs.laws.each_found_state_is_reached.Goals as goal

pub returns : goal.returns
returns c = record {
  reached = found_reached c.moves_up_to_are_turns.ensures.turns;
  spins = spinner_reached c.moves_up_to_are_turns.ensures.turns;
}
