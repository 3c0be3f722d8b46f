use Rattle.fault_lists.proofs.advice.push_distance.Goals as goal

pub returns : goal.returns
returns c = c.push_far.ensures
