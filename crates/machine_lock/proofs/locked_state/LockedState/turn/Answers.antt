use Rattle.std.proofs.Common.{sym, ◌∙◌, subst}
use Rattle.std.specs.Prelude.{IfOk}
use Rattle.machine_lock.specs.Passes.{IsTurned, moment}
use Rattle.machine_lock.proofs.Waiting.{is_none}
use Rattle.machine_lock.proofs.locked_state.LockedState.turn.Goals as goal

pub returns-clause-answered : goal.returns-clause-answered
returns-clause-answered g c =
    let home = is_none c.args.pass.now.row.lent (sym c.is_lent.ensures ∙ c.if-is_lent.false) in
    subst (λ lent. IfOk c.turn_home.result (λ o. IsTurned lent g.N.Run.opening (moment c.args.self.now.log.steps c.args.pass.now) o
    (moment c.turn_home.new.self.log.steps c.turn_home.new.pass)))
    (sym home) c.turn_home.ensures.answered
