use Rattle.local_reduction.proofs.UpTo.{closed_up_to_not_left}
use Rattle.local_reduction.proofs.exchanges.sets_closed_up_to_are_not_left.Goals as goal

pub returns : goal.returns
returns c = record { stays = closed_up_to_not_left }
