use Rattle.std.proofs.Common.{◌≡◌, ◌+◌, length, take, true, false, sym, ◌∙◌, subst, arith}
use Rattle.std.proofs.lemmas.Option.{slice_get-get_or}
use Rattle.machine_lock.specs.Passes.{HaveGone, HaveWaited, leaves_waiting, moment}
use Rattle.machine_lock.proofs.Waiting.{are_over, locked_state_same, goes_on, idle_few, waited_both, waits_again, within_both}
use Rattle.machine_lock.proofs.locked_state.LockedState.rounds.Goals.{then-gone-steps-via-then-gone-steps}
use Rattle.machine_lock.proofs.locked_state.LockedState.rounds.Goals.{then-gone-steps-via-else-gone-steps+then-not-leaves_waiting}
use Rattle.machine_lock.proofs.locked_state.LockedState.rounds.Goals as goal

pub returns-then-gone-steps-clause-answered : goal.returns-then-gone-steps-clause-answered
returns-then-gone-steps-clause-answered g c =
    let at = c.loop-gone.invariant in
    let n = c.loop-gone.gone in
    let i = c.loop-gone.idle in
    let steps = c.args.steps.now in
    let skipped = c.skip_idle_rounds-skipped in
    let q = skipped.result in
    let old = moment c.args.self.now.log.steps c.args.pass.now in
    let between = moment skipped.new.self.log.steps skipped.new.pass in
    let new = moment c.round-answer.new.self.log.steps c.round-answer.new.pass in
    let less = within_both steps n q skipped.ensures.few in
    let waited = waited_both _ old (moment c.loop-gone.self.log.steps c.loop-gone.pass) between steps n q i q at.waited skipped.ensures.waited in
    let here = slice_get-get_or steps (n + q) _ less in
    let on = goes_on _ between new _ _ c.round-answer.ensures.answered (locked_state_same _ _ _ _ _ c.round-answer.ensures.err) in
    let over : leaves_waiting c.round-answer.result ≡ true → n + q + 1 ≡ length steps = λ waits. elim c.then-gone-steps.branch [
      | then-gone-steps-via-then-gone-steps w ↦ w.if-gone-steps.true
      | then-gone-steps-via-else-gone-steps+then-not-leaves_waiting w ↦
          let no : false ≡ true = sym w.if-not-leaves_waiting.true ∙ w.leaves_waiting.ensures ∙ waits in absurd (cc)
    ] in
    subst (λ k. HaveGone g.N.Run.opening old steps (record { gone = n + q + 1; idle = i + q + k; answer = c.round-answer.result }) new)
    (sym c.idle_of-idle.ensures)
    (are_over _ old between new steps (n + q) (i + q) _ c.round-answer.result waited here on less over)

pub loop-gone-preserved : goal.loop-gone-preserved
loop-gone-preserved g c =
    let at = c.loop-gone.invariant in
    let n = c.loop-gone.gone in
    let i = c.loop-gone.idle in
    let steps = c.args.steps.now in
    let skipped = c.skip_idle_rounds-skipped in
    let q = skipped.result in
    let old = moment c.args.self.now.log.steps c.args.pass.now in
    let between = moment skipped.new.self.log.steps skipped.new.pass in
    let new = moment c.round-answer.new.self.log.steps c.round-answer.new.pass in
    let less = within_both steps n q skipped.ensures.few in
    let waited = waited_both _ old (moment c.loop-gone.self.log.steps c.loop-gone.pass) between steps n q i q at.waited skipped.ensures.waited in
    let here = slice_get-get_or steps (n + q) _ less in
    let on = goes_on _ between new _ _ c.round-answer.ensures.answered (locked_state_same _ _ _ _ _ c.round-answer.ensures.err) in
    let one = idle_few c.round-answer.result in
    record {
      within = omega (arith, less, c.if-gone-steps.false);
      few = (let few = at.few in let same = c.idle_of-idle.ensures in omega (arith, few, same, one));
      waited = subst (λ k. HaveWaited g.N.Run.opening old (take (n + q + 1) steps) (i + q + k) new) (sym c.idle_of-idle.ensures)
          (waits_again _ old between new steps (n + q) (i + q) _ c.round-answer.result waited here on
          (sym c.leaves_waiting.ensures ∙ c.if-not-leaves_waiting.false));
      processor = c.round-answer.ensures.processor ∙ skipped.ensures.processor ∙ at.processor;
    }
