use Rattle.state_store.proofs.Still.{none_gone, gone_on, gone_both, standing_quiet}
use Rattle.state_store.proofs.local_state.LocalState.run_to_reference.Goals as goal

pub loop-turn-init : goal.loop-turn-init
loop-turn-init c = none_gone _ _ _

pub loop-turn-preserved : goal.loop-turn-preserved
loop-turn-preserved c = gone_on _ _ _ _ _ c.loop-turn.invariant c.in_ok-step.ensures.turned

pub returns-then-branch-clause-gone : goal.returns-then-branch-clause-gone
returns-then-branch-clause-gone c = gone_on _ _ _ _ _ c.loop-turn.invariant c.in_ok-step.ensures.turned

pub returns-then-branch-clause-quiet : goal.returns-then-branch-clause-quiet
returns-then-branch-clause-quiet c =
    standing_quiet c.args.quietly c.args.code.now c.step.new.self (c.in_ok-step.ensures.stands c.if-branch.true)

pub returns-clause-gone : goal.returns-clause-gone
returns-clause-gone c = gone_both _ _ _ _ _ c.loop-turn.invariant c.in_ok-run_watched.ensures.gone
