use Rattle.std.proofs.Common.{◌≡◌, ◌∙◌, sym, subst}
use Rattle.steps.specs.declared.step.Outcome.TheVariants.{Stalled}
use Rattle.machine_steps.proofs.Lemmas.{stalled_is}
use Rattle.machine_log.proofs.Lemmas.{entered_moving}
use Rattle.run_reports.specs.InMemory.{IsReplayInMemory}
use Rattle.run_reports.proofs.InMemory.{entered_stalled, kept_in_memory, more_in_memory, moving_is}
use Rattle.run_reports.proofs.taking.step_tallied.Goals as goal

pub returns-then-not-is_stalled-clause-kept : goal.returns-then-not-is_stalled-clause-kept
returns-then-not-is_stalled-clause-kept c stalls =
    absurd (moving_is c.apply-outcome.result (sym c.is_stalled.ensures ∙ c.if-not-is_stalled.true) stalls)

pub returns-then-not-is_stalled-clause-counted : goal.returns-then-not-is_stalled-clause-counted
returns-then-not-is_stalled-clause-counted c opening steps r =
    let o = c.apply-outcome.result in
    let moves = moving_is o (sym c.is_stalled.ensures ∙ c.if-not-is_stalled.true) in
    subst (λ xs. IsReplayInMemory opening xs c.apply-outcome.new.self c.note.new.tally) (sym (entered_moving steps c.args.step o moves))
    (more_in_memory opening c.args.machine.now c.apply-outcome.new.self steps c.args.step o c.args.tally.now c.note.new.tally r c.apply-outcome.ensures.step
    moves c.note.ensures.noted)

pub returns-else-not-is_stalled-clause-noted : goal.returns-else-not-is_stalled-clause-noted
returns-else-not-is_stalled-clause-noted c moves =
    absurd (moves (stalled_is c.apply-outcome.result (sym c.is_stalled.ensures ∙ c.if-not-is_stalled.false)))

pub returns-else-not-is_stalled-clause-counted : goal.returns-else-not-is_stalled-clause-counted
returns-else-not-is_stalled-clause-counted c opening steps r =
    let o = c.apply-outcome.result in
    let stalls = sym c.is_stalled.ensures ∙ c.if-not-is_stalled.false in
    subst (λ xs. IsReplayInMemory opening xs c.apply-outcome.new.self c.args.tally.now) (sym (entered_stalled steps c.args.step o stalls))
    (kept_in_memory opening c.args.machine.now c.apply-outcome.new.self steps c.args.step o c.args.tally.now r c.apply-outcome.ensures.step
    (c.apply-outcome.ensures.stalled (stalled_is o stalls)))
