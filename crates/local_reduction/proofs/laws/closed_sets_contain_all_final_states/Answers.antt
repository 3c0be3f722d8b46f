use Rattle.local_reduction.proofs.Covering.{ends_are_in}
use Rattle.local_reduction.proofs.laws.closed_sets_contain_all_final_states.Goals as goal

pub returns : goal.returns
returns c = record { ends = ends_are_in }
