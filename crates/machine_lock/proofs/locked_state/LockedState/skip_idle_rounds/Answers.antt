use Rattle.std.proofs.Common.{◌≡◌, ℕ, ◌-◌, ◌<◌, suc, length, take, true, Some, slice_get, get_or, sym, ◌∙◌, ap, subst, arith}
use Rattle.std.proofs.lemmas.Option.{slice_get-get_or}
use Rattle.steps.specs.declared.step.Step.{Step}
use Rattle.steps.specs.declared.step.Step.TheVariants.{Turn}
use Rattle.steps.specs.declared.step.Outcome.TheVariants.{Stalled}
use Rattle.machine_steps.specs.Runs.{answer_after}
use Rattle.machine_steps.proofs.Lemmas.{outcome_there}
use Rattle.machine_log.specs.Lendings.{OfOthers}
use Rattle.machine_lock.specs.Lists.{is_net, Stalls}
use Rattle.machine_lock.specs.Passes.{Held, HaveWaited, HasAnswered, LockedStateModel, moment}
use Rattle.machine_lock.proofs.Returning.{net_others, turn_others}
use Rattle.machine_lock.proofs.Waiting.{is_none, of_net, idle_rounds_are_skipped}
use Rattle.machine_lock.proofs.locked_state.LockedState.skip_idle_rounds.Goals as goal

-- The machine under the lock answers as that of the log does, but for the cores that are away.
pub returns-in-Ok-clause-waited : goal.returns-in-Ok-clause-waited
returns-in-Ok-clause-waited g c =
    let opening = g.N.Run.opening in
    let steps = c.args.steps.now in
    let skipped = c.idle_rounds-skipped.result in
    let next : suc (skipped - 1) ≡ skipped = omega (arith, c.if-skipped-eq0.false) in
    let less : skipped - 1 < length steps = let few = c.idle_rounds-skipped.ensures.few in omega (arith, few, next) in
    let pass = c.args.pass.now in
    let home = is_none pass.row.lent (sym c.is_lent.ensures ∙ c.if-is_lent.false) in
    let m = c.sync_row.ensures in
    let l = c.self.inside.lending.log in
    let locked_state = c.self.view_is ∙ m.same.1 in
    let old = moment c.args.self.now.log.steps pass in
    let new = moment c.net.new.self.log.steps c.net.new.pass in
    let config = c.machine.ensures.config ∙ c.self.invariant.config in
    let there : (s : Step) → Stalls l.machine s → answer_after opening l.steps s ≡ Stalled = λ s stalls.
    sym (ap (λ x. answer_after x l.steps s) c.self.invariant.opening)
    ∙ outcome_there l.opening l.machine l.steps c.lending_is_well_formed.ensures.kept.replay.run s ∙ stalls in
    let here : (s : Step) → Stalls l.machine s → answer_after opening old.log s ≡ Stalled = λ s stalls.
    subst (λ (x : LockedStateModel). answer_after opening x.log.steps s ≡ Stalled) locked_state (there s stalls) in
    let moves : (k : ℕ) (s : Step) → k < suc (skipped - 1) → slice_get steps k ≡ Some s → is_net opening.config s ≡ true = λ k s within at.
    subst (λ size. is_net size s ≡ true) config (c.idle_rounds-skipped.ensures.moves k s (omega (arith, within, next)) at).0 in
    let stalls : (k : ℕ) (s : Step) → k < suc (skipped - 1) → slice_get steps k ≡ Some s → answer_after opening old.log s ≡ Stalled = λ k s within at.
    let move = c.idle_rounds-skipped.ensures.moves k s (omega (arith, within, next)) at in
    let others = net_others c.self.inside.lending.lent s (of_net c.machine.result.now.config s move.0) in
    here s (sym (c.machine.ensures.answers s others) ∙ move.1) in
    let own = ap (λ (h : Held). h.processor) (c.pass-2.view_is ∙ m.same.0) in
    let away = turn_others c.args.self.now.lent pass.processor (sym home ∙ m.fits.loans pass.processor pass.row m.agrees) in
    let others = subst (λ (x : LockedStateModel × ℕ). OfOthers x.0.lent (Turn x.1)) (λ i. (sym locked_state i, sym own i)) away in
    let turn = subst (λ p. answer_after opening old.log (Turn p) ≡ Stalled) own
    (here (Turn c.pass-2.inside.processor)
    (sym (c.machine.ensures.answers (Turn c.pass-2.inside.processor) others) ∙ c.idle_rounds-skipped.ensures.turn (omega (arith, next)))) in
    let last = get_or steps (skipped - 1) (Turn 0) in
    let at = slice_get-get_or steps (skipped - 1) (Turn 0) less in
    let has_answered = subst (λ (x : LockedStateModel × Held). HasAnswered opening (moment x.0.log.steps x.1) last c.in-Ok.field-0 new)
    (λ i. (m.same.1 i, m.same.0 i))
    c.in-Ok.ensures.answered in
    let stalled = subst (λ o. HasAnswered opening old last o new) (has_answered.answer ∙ stalls (skipped - 1) last (omega arith) at) has_answered in
    subst (λ n. HaveWaited opening old (take n steps) n new) next
    (idle_rounds_are_skipped opening old new steps (skipped - 1) last home turn moves stalls at stalled)
