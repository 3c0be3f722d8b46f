use Rattle.omega_wires.proofs.Paths.{right_by_shifts}
use Rattle.omega_wires.proofs.wires.rotate_right.Goals as goal

pub returns-clause-exact : goal.returns-clause-exact
returns-clause-exact c = right_by_shifts c.args.k c.args.wire c.requires.stages c.requires.on_a_wire
