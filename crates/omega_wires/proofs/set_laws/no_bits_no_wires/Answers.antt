use Rattle.omega_wires.proofs.Changes.{empty_has_none}
use Rattle.omega_wires.proofs.set_laws.no_bits_no_wires.Goals as goal

pub returns : goal.returns
returns c = empty_has_none
