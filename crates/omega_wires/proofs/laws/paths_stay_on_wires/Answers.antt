use Rattle.omega_wires.proofs.Paths.{path_lt}
use Rattle.omega_wires.proofs.laws.paths_stay_on_wires.Goals as goal

pub returns : goal.returns
returns c = path_lt
