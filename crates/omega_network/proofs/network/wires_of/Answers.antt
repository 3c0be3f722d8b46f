use Rattle.omega_network.proofs.Switches.{few_wires}
use Rattle.omega_network.proofs.network.wires_of.Goals as goal

pub returns-clause-few : goal.returns-clause-few
returns-clause-few c = few_wires c.args.k c.requires
