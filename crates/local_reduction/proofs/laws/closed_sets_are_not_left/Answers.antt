use Rattle.local_reduction.proofs.Covering.{not_left}
use Rattle.local_reduction.proofs.laws.closed_sets_are_not_left.Goals as goal

pub returns : goal.returns
returns c = record { stays = not_left }
