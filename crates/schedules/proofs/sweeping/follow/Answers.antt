use Rattle.std.proofs.Common.{◌<◌, ◌≤◌, ◌∙◌, true, false, length, refl, sym, ap, subst, arith}
use Rattle.flat_machine.specs.declared.config.Config.{Config}
use Rattle.machine_steps.specs.Standing.{HasRunning}
use Rattle.schedules.proofs.Ending.{has_running}
use Rattle.schedules.proofs.Following.{budget_used, following_begins, following_more, following_over, over_at_once, runs_there}
use Rattle.schedules.proofs.Takers.{one_config}
use Rattle.schedules.proofs.sweeping.follow.Goals as goal

pub returns-then-not-any_runs-clause-followed : goal.returns-then-not-any_runs-clause-followed
returns-then-not-any_runs-clause-followed g c before is =
    let first = g.met.T.StepTaker.of_machine c.args.taker.now before is in
    let few : length before.steps ≤ c.args.limit = (let count = first.count in omega (arith, count, c.requires.few)) in (
      before,
      is,
      over_at_once c.args.limit before few first.replay
          (λ runs.
          let there = subst HasRunning (first.machine ∙ sym c.machine.ensures)
          (has_running before.opening before.machine before.steps first.replay runs) in
          let yes = c.any_runs.ensures.1 there in let other = c.if-not-any_runs.true in let test = c.if-not-any_runs.ensures in cc),
    )

pub loop-taker-init : goal.loop-taker-init
loop-taker-init g c = record {
  config = refl;
  most = refl;
  following = λ before is.
      let first = g.met.T.StepTaker.of_machine c.args.taker.now before is in
      let few : length before.steps ≤ c.args.limit = (let count = first.count in omega (arith, count, c.requires.few)) in (
        before,
        is,
        following_begins c.args.limit before few first.replay
            (subst HasRunning (c.machine.ensures ∙ sym first.machine) (c.any_runs.ensures.0 (let other = c.if-not-any_runs.false in
            let test = c.if-not-any_runs.ensures in cc))),
      );
}

pub take_round-requires-clause-running : goal.take_round-requires-clause-running
take_round-requires-clause-running g c =
    let begun = c.requires.log in
    let so_far = c.loop-taker.invariant.following begun.0 begun.1 in
    let here = g.met.T.StepTaker.of_machine c.loop-taker.taker so_far.0 so_far.1 in
    subst HasRunning here.machine (runs_there c.args.limit begun.0 so_far.0 so_far.2)

pub returns-then-take_round-clause-followed : goal.returns-then-take_round-clause-followed
returns-then-take_round-clause-followed g c before is =
    let i = c.loop-taker.invariant in
    let so_far = i.following before is in
    let first = g.met.T.StepTaker.of_machine c.args.taker.now before is in
    let here = g.met.T.StepTaker.of_machine c.loop-taker.taker so_far.0 so_far.1 in
    let room : length so_far.0.steps < c.args.limit =
    (let count = here.count in let seen = c.count.ensures in omega (arith, count, seen, c.loop-taker-test.true)) in
    let round = c.if-take_round.ensures.round so_far.0 so_far.1 in (
      round.0,
      round.1,
      following_over c.args.limit before so_far.0 round.0 so_far.2
          (ap (λ (d : Config). d.k) (one_config so_far.0 before here.machine i.config first.machine)) room true round.2 refl,
    )

pub loop-taker-preserved : goal.loop-taker-preserved
loop-taker-preserved g c =
    let i = c.loop-taker.invariant in
    record {
      config = c.take_round.ensures.config ∙ i.config;
      most = c.take_round.ensures.most ∙ i.most;
      following = λ before is.
          let so_far = i.following before is in
          let first = g.met.T.StepTaker.of_machine c.args.taker.now before is in
          let here = g.met.T.StepTaker.of_machine c.loop-taker.taker so_far.0 so_far.1 in
          let room : length so_far.0.steps < c.args.limit =
          (let count = here.count in let seen = c.count.ensures in omega (arith, count, seen, c.loop-taker-test.true)) in
          let round = c.if-take_round.ensures.round so_far.0 so_far.1 in (
            round.0,
            round.1,
            following_more c.args.limit before so_far.0 round.0 so_far.2
                (ap (λ (d : Config). d.k) (one_config so_far.0 before here.machine i.config first.machine)) room false round.2 refl,
          );
    }

pub returns-clause-followed : goal.returns-clause-followed
returns-clause-followed g c before is =
    let so_far = c.loop-taker.invariant.following before is in
    let here = g.met.T.StepTaker.of_machine c.loop-taker.taker so_far.0 so_far.1 in (
      so_far.0,
      so_far.1,
      budget_used c.args.limit before so_far.0 so_far.2
          (let count = here.count in let seen = c.count.ensures in omega (arith, count, seen, c.loop-taker-test.false)),
    )
