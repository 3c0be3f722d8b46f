use Rattle.local_reduction.proofs.UpTo.{up_to_turns}
use Rattle.local_reduction.proofs.exchanges.moves_up_to_are_turns.Goals as goal

pub returns : goal.returns
returns c = record { turns = up_to_turns }
