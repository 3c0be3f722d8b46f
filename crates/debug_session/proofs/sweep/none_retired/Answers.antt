use Rattle.debug_session.proofs.Few.{none_noted}
use Rattle.debug_session.proofs.sweep.none_retired.Goals as goal

pub returns : goal.returns
returns c p = none_noted 64 p
