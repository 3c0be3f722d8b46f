use Rattle.state_graph.proofs.Resulting.{complete}
use Rattle.state_graph.proofs.laws.each_result_is_stood_for.Goals as goal

pub returns : goal.returns
returns c = record { complete = complete c.sets_closed_up_to_contain_all_final_states.ensures.ends }
