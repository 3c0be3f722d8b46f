use Rattle.local_reduction.proofs.UpTo.{short_up_to}
use Rattle.local_reduction.proofs.exchanges.short_up_to_schedules_end.Goals as goal

pub returns : goal.returns
returns c = record { ends = short_up_to }
