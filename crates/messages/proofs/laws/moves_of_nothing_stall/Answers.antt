use Rattle.messages.proofs.Nothing.{nothing_moves_down, nothing_moves_up}
use Rattle.messages.proofs.laws.moves_of_nothing_stall.Goals as goal

pub returns-clause-up : goal.returns-clause-up
returns-clause-up c = nothing_moves_up

pub returns-clause-down : goal.returns-clause-down
returns-clause-down c = nothing_moves_down
