use Rattle.std.proofs.Common.{◌≡◌, ◌+◌, ◌*◌, ◌^◌, ◌≤◌, refl, sym, ap, ◌∙◌, subst, arith}
use Rattle.machine_steps.specs.Machines.{MachineLists}
use Rattle.schedules.proofs.Going.{ended_before, gone_at, gone_nowhere, same_stages}
use Rattle.schedules.proofs.Parts.{up_gone}
use Rattle.schedules.proofs.sweeping.take_ups.Goals as goal

pub loop-passed-init : goal.loop-passed-init
loop-passed-init g c = record {
  gone = λ before is. (before, is, gone_nowhere c.args.limit (1 * 2 ^ before.machine.config.k) before);
  config = refl;
  most = refl;
  few = subst (λ (m : MachineLists). m.config.k ≤ 6) c.machine-machine.ensures c.machine_is_well_formed.ensures.limits.stages;
}

pub returns-in-Some-clause-gone : goal.returns-in-Some-clause-gone
returns-in-Some-clause-gone g c before is =
    let first = g.met.T.StepTaker.of_machine c.args.taker.now before is in
    let so_far = c.loop-passed.invariant.gone before is in
    let row = c.in-Some.ensures.gone so_far.0 so_far.1 in
    let stages = same_stages c.config-stages.ensures.config (c.machine-machine.ensures ∙ sym first.machine) in
    (row.0, row.1, ended_before (up_gone stages c.loop-passed-test.true so_far.2 row.2))

pub loop-passed-preserved : goal.loop-passed-preserved
loop-passed-preserved g c = record {
  gone = λ before is.
      let first = g.met.T.StepTaker.of_machine c.args.taker.now before is in
      let so_far = c.loop-passed.invariant.gone before is in
      let row = c.in_default.ensures.gone so_far.0 so_far.1 in
      let stages = same_stages c.config-stages.ensures.config (c.machine-machine.ensures ∙ sym first.machine) in
      (row.0, row.1, up_gone stages c.loop-passed-test.true so_far.2 row.2);
  config = c.take_row.ensures.config ∙ c.loop-passed.invariant.config;
  most = c.take_row.ensures.most ∙ c.loop-passed.invariant.most;
  few = c.loop-passed.invariant.few;
}

pub returns-clause-gone : goal.returns-clause-gone
returns-clause-gone g c before is =
    let first = g.met.T.StepTaker.of_machine c.args.taker.now before is in
    let so_far = c.loop-passed.invariant.gone before is in
    let k = before.machine.config.k in
    let stages : c.config-stages.result.k ≡ k = same_stages c.config-stages.ensures.config (c.machine-machine.ensures ∙ sym first.machine) in
    let all : c.loop-passed.passed ≡ k = omega (arith, stages, c.loop-passed-test.false, c.loop-passed.auto.passed-end) in
    (so_far.0, so_far.1, gone_at so_far.2 refl (ap (λ n. (n + 1) * 2 ^ k) all))
