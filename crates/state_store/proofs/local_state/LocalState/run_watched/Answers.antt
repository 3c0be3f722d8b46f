use Rattle.state_store.proofs.Still.{none_gone, gone_both}
use Rattle.state_store.proofs.local_state.LocalState.run_watched.Goals as goal

pub loop-turns-init : goal.loop-turns-init
loop-turns-init c = none_gone _ _ _

pub returns-then-branch-clause-gone : goal.returns-then-branch-clause-gone
returns-then-branch-clause-gone c = gone_both _ _ _ _ _ c.loop-turns.invariant c.in_ok-watch.ensures.gone

pub loop-turns-preserved : goal.loop-turns-preserved
loop-turns-preserved c = gone_both _ _ _ _ _ c.loop-turns.invariant c.in_ok-watch.ensures.gone
