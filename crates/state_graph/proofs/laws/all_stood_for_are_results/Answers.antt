use Rattle.state_graph.proofs.Resulting.{sound}
use Rattle.state_graph.proofs.laws.all_stood_for_are_results.Goals as goal

pub returns : goal.returns
returns c = record { sound = sound c.each_exchange_is_reached.ensures.each }
