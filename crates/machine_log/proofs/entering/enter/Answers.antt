use Rattle.std.proofs.Common.{◌∙◌, sym, subst}
use Rattle.machine_log.specs.Logs.{IsEntered}
use Rattle.machine_log.proofs.Taking.{entered_one, entered_moving, moving_is, entered_stalled}
use Rattle.machine_log.proofs.entering.enter.Goals as goal

pub returns-then-not-is_stalled-clause-entered : goal.returns-then-not-is_stalled-clause-entered
returns-then-not-is_stalled-clause-entered c =
    let a = c.apply-outcome.ensures in
    let o = c.apply-outcome.result in
    subst (IsEntered c.args.machine.now c.args.steps.now.items 1 c.apply-outcome.new.self)
    (entered_moving c.args.steps.now.items c.args.step o (moving_is o (sym c.is_stalled.ensures ∙ c.if-not-is_stalled.true))
    ∙ sym c.push_reserved.ensures.items)
    (entered_one c.args.machine.now c.apply-outcome.new.self c.args.steps.now.items c.args.step o a.sound a.step a.stalled)

pub returns-else-not-is_stalled-clause-entered : goal.returns-else-not-is_stalled-clause-entered
returns-else-not-is_stalled-clause-entered c =
    let a = c.apply-outcome.ensures in
    let o = c.apply-outcome.result in
    subst (IsEntered c.args.machine.now c.args.steps.now.items 1 c.apply-outcome.new.self)
    (entered_stalled c.args.steps.now.items c.args.step o (sym c.is_stalled.ensures ∙ c.if-not-is_stalled.false))
    (entered_one c.args.machine.now c.apply-outcome.new.self c.args.steps.now.items c.args.step o a.sound a.step a.stalled)
