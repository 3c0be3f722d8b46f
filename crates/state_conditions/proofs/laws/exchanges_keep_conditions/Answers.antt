use Rattle.state_conditions.proofs.Exchanging.{kept}
use Rattle.state_conditions.proofs.laws.exchanges_keep_conditions.Goals as goal

pub returns : goal.returns
returns c = record { kept = kept }
