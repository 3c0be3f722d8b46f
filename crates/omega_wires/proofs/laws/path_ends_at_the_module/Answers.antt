use Rattle.omega_wires.proofs.Paths.{path_end}
use Rattle.omega_wires.proofs.laws.path_ends_at_the_module.Goals as goal

pub returns : goal.returns
returns c = path_end
