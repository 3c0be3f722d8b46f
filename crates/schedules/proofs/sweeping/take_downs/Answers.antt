use Rattle.std.proofs.Common.{◌≡◌, ◌+◌, ◌*◌, ◌^◌, ◌≤◌, refl, sym, ap, ◌∙◌, subst, arith}
use Rattle.machine_steps.specs.Machines.{MachineLists}
use Rattle.schedules.proofs.Going.{ended_before, gone_at, gone_nowhere, same_stages}
use Rattle.schedules.proofs.Parts.{down_gone}
use Rattle.schedules.proofs.sweeping.take_downs.Goals as goal

pub loop-stage-init : goal.loop-stage-init
loop-stage-init g c = record {
  gone = λ before is.
      let k = before.machine.config.k in
      (before, is, gone_at (gone_nowhere c.args.limit ((k + 2) * 2 ^ k) before) refl (ap (λ n. n * 2 ^ k) (omega arith)));
  config = refl;
  most = refl;
  few = subst (λ (m : MachineLists). m.config.k ≤ 6) c.machine-machine.ensures c.machine_is_well_formed.ensures.limits.stages;
}

pub returns-in-Some-clause-gone : goal.returns-in-Some-clause-gone
returns-in-Some-clause-gone g c before is =
    let so_far = c.loop-stage.invariant.gone before is in
    let row = c.in-Some.ensures.gone so_far.0 so_far.1 in
    (row.0, row.1, ended_before (down_gone c.loop-stage.stage so_far.2 row.2))

pub loop-stage-preserved : goal.loop-stage-preserved
loop-stage-preserved g c = record {
  gone = λ before is.
      let so_far = c.loop-stage.invariant.gone before is in
      let row = c.in_default.ensures.gone so_far.0 so_far.1 in
      (row.0, row.1, down_gone c.loop-stage.stage so_far.2 row.2);
  config = c.take_row.ensures.config ∙ c.loop-stage.invariant.config;
  most = c.take_row.ensures.most ∙ c.loop-stage.invariant.most;
  few = c.loop-stage.invariant.few;
}

pub returns-clause-gone : goal.returns-clause-gone
returns-clause-gone g c before is =
    let first = g.met.T.StepTaker.of_machine c.args.taker.now before is in
    let so_far = c.loop-stage.invariant.gone before is in
    let k = before.machine.config.k in
    let stages : c.config-stages.result.k ≡ k = same_stages c.config-stages.ensures.config (c.machine-machine.ensures ∙ sym first.machine) in
    let all : k + 2 + c.loop-stage.stage ≡ 2 * k + 2 = omega (arith, stages, c.loop-stage-test.false, c.loop-stage.auto.stage-end) in
    (so_far.0, so_far.1, gone_at so_far.2 refl (ap (λ n. n * 2 ^ k) all))
