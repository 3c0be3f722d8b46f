use Rattle.std.proofs.Common.{◌<◌, length, Some, refl, sym, ◌∙◌, subst, arith}
use Rattle.machine_steps.specs.Machines.{IsMachine}
use Rattle.machine_steps.specs.Standing.{HasRunning}
use Rattle.schedules.specs.Rounds.{round}
use Rattle.schedules.proofs.Going.{round_ends, round_is_through}
use Rattle.schedules.proofs.sweeping.take_round.Goals as goal

pub returns-in-Some-clause-round : goal.returns-in-Some-clause-round
returns-in-Some-clause-round g c before is =
    let first = g.met.T.StepTaker.of_machine c.args.taker.now before is in
    let few : length before.steps < c.args.limit = (let count = first.count in omega (arith, count, c.requires.few)) in
    let rows = c.in-Some.ensures.gone before is in (
      rows.0,
      rows.1,
      round_ends c.args.limit before rows.0 few (subst IsMachine (c.machine-machine.ensures ∙ sym first.machine) c.machine_is_well_formed.ensures)
          (subst HasRunning (sym first.machine) c.requires.running) first.replay (length (round before.machine.config.k))
          (Some c.in-Some.is_over) c.in-Some.is_over rows.2 refl,
    )

pub returns-in-None-clause-round : goal.returns-in-None-clause-round
returns-in-None-clause-round g c before is =
    let first = g.met.T.StepTaker.of_machine c.args.taker.now before is in
    let few : length before.steps < c.args.limit = (let count = first.count in omega (arith, count, c.requires.few)) in
    let rows = c.in-None.ensures.gone before is in (
      rows.0,
      rows.1,
      round_is_through c.args.limit before rows.0 few (subst IsMachine (c.machine-machine.ensures ∙ sym first.machine) c.machine_is_well_formed.ensures)
          (subst HasRunning (sym first.machine) c.requires.running) first.replay (length (round before.machine.config.k)) rows.2 (omega arith),
    )
