use Rattle.fault_lists.proofs.advice.push_room.Goals as goal

pub returns : goal.returns
returns c = c.push_full.ensures
