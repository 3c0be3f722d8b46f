use Rattle.std.proofs.Common.{ℕ, sym, ◌∙◌, ap, subst}
use Rattle.steps.specs.declared.step.Step.TheVariants.{Turn}
use Rattle.machine_log.specs.Lendings.{OfOthers}
use Rattle.machine_lock.specs.Passes.{Held, LockedStateModel}
use Rattle.machine_lock.proofs.Returning.{turn_others}
use Rattle.machine_lock.proofs.locked_state.LockedState.turn_home.Goals as goal

pub answer-requires-clause-others : goal.answer-requires-clause-others
answer-requires-clause-others g c =
    let m = c.sync_row.ensures in
    let locked_state = c.args.self.now in
    let pass = c.args.pass.now in
    let own = ap (λ (h : Held). h.processor) (c.pass.view_is ∙ m.same.0) in
    subst (λ (x : LockedStateModel × ℕ). OfOthers x.0.lent (Turn x.1)) (λ i. (sym m.same.1 i, sym own i))
    (turn_others locked_state.lent pass.processor (sym c.requires.home ∙ m.fits.loans pass.processor pass.row m.agrees))
