use Rattle.omega_wires.proofs.Paths.{before_path, go_back}
use Rattle.omega_wires.proofs.laws.replies_go_back_the_same_way.Goals as goal

pub returns-clause-each : goal.returns-clause-each
returns-clause-each c = before_path

pub returns-clause-end : goal.returns-clause-end
returns-clause-end c = go_back
