use Rattle.std.proofs.Common.{refl, sym, subst}
use Rattle.machine_steps.specs.Standing.{HasRunning}
use Rattle.debug_session.proofs.Stepping.{begins, ends_where_none_runs}
use Rattle.debug_session.proofs.sweep.follow.Goals as goal

pub loop-retired-init : goal.loop-retired-init
loop-retired-init c = record {
  config = refl;
  capacity_left = refl;
  under_way = begins c.args.breaks.now c.args.limit c.args.log.now.log c.none_retired-retired.result c.reserved_log_is_well_formed.ensures.replay c.requires.few
      (λ p within. c.none_retired-retired.ensures p);
}

pub returns-then-not-any_runs-clause-swept : goal.returns-then-not-any_runs-clause-swept
returns-then-not-any_runs-clause-swept c =
    ends_where_none_runs c.args.breaks.now c.args.limit c.args.log.now.log c.loop-retired.log.log c.loop-retired.retired c.loop-retired.invariant.under_way
    (λ runs.
    let there = subst HasRunning (sym c.machine.ensures.machine) runs in
    let yes = c.any_runs.ensures.1 there in let other = c.if-not-any_runs.true in let is = c.if-not-any_runs.ensures in cc)

pub returns-then-take_round-clause-swept : goal.returns-then-take_round-clause-swept
returns-then-take_round-clause-swept c = c.if-take_round.ensures.over refl c.args.log.now.log c.loop-retired.invariant.under_way
