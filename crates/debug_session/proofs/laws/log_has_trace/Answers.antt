use Rattle.debug_session.proofs.Recorded.{has_trace}
use Rattle.debug_session.proofs.laws.log_has_trace.Goals as goal

pub returns : goal.returns
returns c = has_trace c.args.log.now c.log_is_well_formed.ensures.kept
