use Rattle.random_schedules.proofs.Fair.{epoch_is_fair}
use Rattle.random_schedules.proofs.laws.epochs_are_fair.Goals as goal

pub returns : goal.returns
returns c = epoch_is_fair
