use Rattle.local_reduction.proofs.UpTo.{closed_up_to_ends}
use Rattle.local_reduction.proofs.exchanges.sets_closed_up_to_contain_all_final_states.Goals as goal

pub returns : goal.returns
returns c = record { ends = closed_up_to_ends }
