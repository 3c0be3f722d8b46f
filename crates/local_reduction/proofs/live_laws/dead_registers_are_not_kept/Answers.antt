use Rattle.local_reduction.proofs.Forgetting.{dead_not_kept}
use Rattle.local_reduction.proofs.live_laws.dead_registers_are_not_kept.Goals as goal

pub returns : goal.returns
returns c = record { not_kept = dead_not_kept }
