use Rattle.fault_lists.proofs.advice.push_near.Goals as goal

pub returns : goal.returns
returns c = c.push_name.ensures
