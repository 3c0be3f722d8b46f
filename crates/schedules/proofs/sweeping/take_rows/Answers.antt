use Rattle.std.proofs.Common.{◌≡◌, ◌≤◌, ◌∙◌, sym, subst}
use Rattle.machine_steps.specs.Machines.{MachineLists}
use Rattle.schedules.proofs.Going.{ended_before}
use Rattle.schedules.proofs.Parts.{all_gone, services_gone, turns_gone, ups_gone}
use Rattle.schedules.proofs.sweeping.take_rows.Goals as goal

pub returns-in-Some-clause-gone : goal.returns-in-Some-clause-gone
returns-in-Some-clause-gone g c before is =
    let turns = c.in-Some.ensures.gone before is in
    (turns.0, turns.1, ended_before (turns_gone turns.2))

pub returns-in-Some-take_ups-clause-gone : goal.returns-in-Some-take_ups-clause-gone
returns-in-Some-take_ups-clause-gone g c before is =
    let turns = c.in_default.ensures.gone before is in
    let ups = c.in-Some-take_ups.ensures.gone turns.0 turns.1 in
    (ups.0, ups.1, ended_before (ups_gone (turns_gone turns.2) ups.2))

pub returns-in-Some-take_row-clause-gone : goal.returns-in-Some-take_row-clause-gone
returns-in-Some-take_row-clause-gone g c before is =
    let turns = c.in_default.ensures.gone before is in
    let ups = c.in_default-take_ups.ensures.gone turns.0 turns.1 in
    let services = c.in-Some-take_row.ensures.gone ups.0 ups.1 in
    (services.0, services.1, ended_before (services_gone (ups_gone (turns_gone turns.2) ups.2) services.2))

pub returns-clause-gone : goal.returns-clause-gone
returns-clause-gone g c before is =
    let first = g.met.T.StepTaker.of_machine c.args.taker.now before is in
    let few : before.machine.config.k ≤ 6 =
    subst (λ (m : MachineLists). m.config.k ≤ 6) (c.machine-machine.ensures ∙ sym first.machine) c.machine_is_well_formed.ensures.limits.stages in
    let turns = c.in_default.ensures.gone before is in
    let ups = c.in_default-take_ups.ensures.gone turns.0 turns.1 in
    let services = c.in_default-take_row.ensures.gone ups.0 ups.1 in
    let downs = c.take_downs.ensures.gone services.0 services.1 in
    (downs.0, downs.1, all_gone few (services_gone (ups_gone (turns_gone turns.2) ups.2) services.2) downs.2)
