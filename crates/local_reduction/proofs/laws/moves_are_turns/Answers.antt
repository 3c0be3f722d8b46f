use Rattle.local_reduction.proofs.Reaching.{moves_are}
use Rattle.local_reduction.proofs.laws.moves_are_turns.Goals as goal

pub returns : goal.returns
returns c = record { turns = moves_are }
