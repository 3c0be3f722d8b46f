use Rattle.std.proofs.Common.{◌+◌, ◌≤◌, ◌∙◌, length, refl, sym, subst, arith}
use Rattle.machine_steps.specs.Draining.{drain_bound}
use Rattle.schedules.specs.Sweeps.{HasFollowed, IsSwept}
use Rattle.schedules.proofs.Recorded.{swept_has_records}
use Rattle.schedules.proofs.Takers.{followed_own}
use Rattle.schedules.proofs.sweeping.sweep.Goals as goal

pub follow-end-requires-clause-log : goal.follow-end-requires-clause-log
follow-end-requires-clause-log c = (c.args.log.now.log, record { is = refl; replay = c.reserved_log_is_well_formed.ensures.replay })

pub drain-requires : goal.drain-requires
drain-requires c =
    let old = c.args.log.now.log in
    let middle = c.follow-end.new.taker in
    let followed = subst (λ xs. HasFollowed (length xs + c.args.most) old c.follow-end.result middle.log) c.steps.ensures.steps
    (followed_own _ old c.follow-end.result middle.log c.reserved_log_is_well_formed.ensures.replay c.follow-end.ensures.followed) in
    let few = followed.few in
    let most = c.follow-end.ensures.most in
    record {
      room = subst (λ d. drain_bound d ≤ middle.capacity_left) (sym c.follow-end.ensures.config) (omega (arith, few, most, c.requires.room));
    }

pub returns-clause-swept : goal.returns-clause-swept
returns-clause-swept c =
    let old = c.args.log.now.log in
    let middle = c.follow-end.new.taker.log in
    let followed = subst (λ xs. HasFollowed (length xs + c.args.most) old c.follow-end.result middle) c.steps.ensures.steps
    (followed_own _ old c.follow-end.result middle c.reserved_log_is_well_formed.ensures.replay c.follow-end.ensures.followed) in
    record {
      middle = middle;
      followed = followed;
      opening = c.drain.ensures.opening ∙ followed.opening;
      steps = c.drain.ensures.entered;
      idle = c.drain.ensures.drained.idle;
    }

pub returns-clause-records : goal.returns-clause-records
returns-clause-records c =
    let old = c.args.log.now.log in
    let new = c.drain.new.self.log in
    let middle = c.follow-end.new.taker.log in
    let followed = subst (λ xs. HasFollowed (length xs + c.args.most) old c.follow-end.result middle) c.steps.ensures.steps
    (followed_own _ old c.follow-end.result middle c.reserved_log_is_well_formed.ensures.replay c.follow-end.ensures.followed) in
    let swept : IsSwept c.args.most old c.follow-end.result new =
    record {
      middle = middle;
      followed = followed;
      opening = c.drain.ensures.opening ∙ followed.opening;
      steps = c.drain.ensures.entered;
      idle = c.drain.ensures.drained.idle;
    } in
    swept_has_records c.args.most old c.follow-end.result new swept c.reserved_log_is_well_formed-2.ensures.replay
    c.reserved_log_is_well_formed.ensures.replay.run.config
