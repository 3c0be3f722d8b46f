use Rattle.phi_algebra.proofs.Composed.{associative}
use Rattle.phi_algebra.proofs.laws.composition_is_associative.Goals as goal

pub returns : goal.returns
returns c = associative
