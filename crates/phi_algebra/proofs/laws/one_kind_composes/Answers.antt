use Rattle.phi_algebra.proofs.Composed.{one_kind}
use Rattle.phi_algebra.proofs.laws.one_kind_composes.Goals as goal

pub returns : goal.returns
returns c = one_kind
