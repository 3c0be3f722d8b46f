use Rattle.local_reduction.proofs.Fairness.{fairly_ended}
use Rattle.local_reduction.proofs.laws.fairly_ranked_schedules_end.Goals as goal

pub returns : goal.returns
returns c = record { ends = fairly_ended }
