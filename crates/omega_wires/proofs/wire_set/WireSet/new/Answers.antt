use Rattle.omega_wires.proofs.Changes.{empty_has_none}
use Rattle.omega_wires.proofs.wire_set.WireSet.new.Goals as goal

pub returns : goal.returns
returns c = empty_has_none
