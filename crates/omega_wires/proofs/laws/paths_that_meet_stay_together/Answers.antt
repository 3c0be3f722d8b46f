use Rattle.omega_wires.proofs.Paths.{meet}
use Rattle.omega_wires.proofs.laws.paths_that_meet_stay_together.Goals as goal

pub returns : goal.returns
returns c = meet
