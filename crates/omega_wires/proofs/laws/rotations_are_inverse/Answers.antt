use Rattle.omega_wires.proofs.Paths.{inverse, rotations_small}
use Rattle.omega_wires.proofs.laws.rotations_are_inverse.Goals as goal

pub returns-clause-inverse : goal.returns-clause-inverse
returns-clause-inverse c = inverse

pub returns-clause-small : goal.returns-clause-small
returns-clause-small c = rotations_small
