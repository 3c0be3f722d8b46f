use Rattle.local_reduction.proofs.Moving.{moved}
use Rattle.local_reduction.proofs.laws.moves_are_of_what_is_kept.Goals as goal

pub returns : goal.returns
returns c = record { made = moved }
