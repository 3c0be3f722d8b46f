use Rattle.state_graph.proofs.Between.{stood_for}
use Rattle.state_graph.proofs.laws.each_state_is_stood_for.Goals as goal

pub returns : goal.returns
returns c = record { complete = stood_for c.sets_closed_up_to_are_not_left.ensures.stays }
