use Rattle.local_reduction.proofs.Forgetting.{dead_forgotten}
use Rattle.local_reduction.proofs.live_laws.dead_registers_can_be_forgotten.Goals as goal

pub returns : goal.returns
returns c = record { forgotten = dead_forgotten c.stopped_processors_can_be_forgotten.ensures.forgotten }
