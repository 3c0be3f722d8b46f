use Rattle.phi_algebra.proofs.Composed.{neutral}
use Rattle.phi_algebra.proofs.laws.identity_is_neutral.Goals as goal

pub returns : goal.returns
returns c = neutral
