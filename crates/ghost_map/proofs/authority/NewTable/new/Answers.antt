use Rattle.ghost_map.proofs.Moves.{begins}
use Rattle.ghost_map.proofs.authority.NewTable.new.Goals as goal

pub of_words-requires : goal.of_words-requires
of_words-requires g c = begins {R = g.row.R.Denot}
