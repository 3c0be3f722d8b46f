use Rattle.local_reduction.proofs.Bounding.{bounded}
use Rattle.local_reduction.proofs.laws.short_schedules_end.Goals as goal

pub returns : goal.returns
returns c = record { ends = bounded }
