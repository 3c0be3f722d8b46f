use Rattle.fault_lists.proofs.advice.push_line_of.Goals as goal

pub returns : goal.returns
returns c = c.push_count_between.ensures
