use Rattle.std.proofs.Common.{refl, subst}
use Rattle.state_store.specs.Placed.{IsEqual}
use Rattle.state_store.proofs.Still.{gone_on, standing_quiet, none_gone_on, gone_on_more, back_still, back_quiet}
use Rattle.state_store.proofs.local_state.LocalState.watch.Goals as goal

pub loop-turn-init : goal.loop-turn-init
loop-turn-init c = none_gone_on _ _ _

pub returns-then-branch-clause-gone : goal.returns-then-branch-clause-gone
returns-then-branch-clause-gone c = gone_on _ _ _ _ _ c.loop-turn.invariant.gone c.in_ok-step.ensures.turned

pub returns-then-branch-clause-quiet : goal.returns-then-branch-clause-quiet
returns-then-branch-clause-quiet c = λ _.
    standing_quiet c.args.quietly c.args.code.now c.step.new.self (c.in_ok-step.ensures.stands c.if-branch.true)

pub returns-then-is_equal-clause-gone : goal.returns-then-is_equal-clause-gone
returns-then-is_equal-clause-gone c = gone_on _ _ _ _ _ c.loop-turn.invariant.gone c.in_ok-step.ensures.turned

pub returns-then-is_equal-clause-still : goal.returns-then-is_equal-clause-still
returns-then-is_equal-clause-still c = λ _.
    back_still c.args.quietly c.args.code.now c.args.self.now c.loop-turn.self c.step.new.self c.loop-turn.invariant
    c.in_ok-step.ensures.turned (c.in_ok-step.ensures.goes_on c.if-branch.false)
    (subst (IsEqual c.step.new.self) c.in-Ok.ensures (c.if-is_equal.ensures.0 refl)) c.what_comes_back_spins.ensures.spins

pub returns-then-is_equal-clause-quiet : goal.returns-then-is_equal-clause-quiet
returns-then-is_equal-clause-quiet c = λ _.
    back_quiet c.args.quietly c.args.code.now c.args.self.now c.loop-turn.self c.step.new.self c.loop-turn.invariant
    c.in_ok-step.ensures.turned (c.in_ok-step.ensures.goes_on c.if-branch.false)
    (subst (IsEqual c.step.new.self) c.in-Ok.ensures (c.if-is_equal.ensures.0 refl)) c.what_comes_back_spins.ensures.quiet

pub loop-turn-preserved : goal.loop-turn-preserved
loop-turn-preserved c =
    gone_on_more c.args.quietly c.args.code.now c.args.self.now c.loop-turn.self c.step.new.self c.loop-turn.invariant
    c.in_ok-step.ensures.turned (c.in_ok-step.ensures.goes_on c.if-branch.false)
