use Rattle.local_reduction.proofs.Stopping.{forgetful}
use Rattle.local_reduction.proofs.laws.stopped_processors_can_be_forgotten.Goals as goal

pub returns : goal.returns
returns c = record { forgotten = forgetful }
