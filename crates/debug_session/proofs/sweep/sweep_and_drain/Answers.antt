use Rattle.std.proofs.Common.{◌+◌, ◌∙◌, length, subst}
use Rattle.debug_session.specs.Sweeps.{HasContinued, HasSwept}
use Rattle.debug_session.proofs.Running.{has_run}
use Rattle.debug_session.proofs.sweep.sweep_and_drain.Goals as goal

pub returns-clause-ran : goal.returns-clause-ran
returns-clause-ran c =
    let old = c.args.log.now.log in
    let new = c.drain.new.self.log in
    let middle = c.follow.new.log.log in
    let swept = subst (λ xs. HasSwept c.args.breaks.now (length xs + c.args.budget) old middle) c.steps.ensures.steps c.follow.ensures.swept in
    let continued : HasContinued c.args.breaks.now c.args.budget old new =
    record {
      middle = middle;
      swept = swept;
      opening = c.drain.ensures.opening ∙ swept.opening;
      steps = c.drain.ensures.entered;
      idle = c.drain.ensures.drained.idle;
    } in
    has_run c.replays_are_cut.ensures.cut c.sweeps_write_nothing.ensures.drains c.args.breaks.now c.args.budget old new continued
    c.reserved_log_is_well_formed.ensures.replay
    c.reserved_log_is_well_formed-2.ensures.replay
