use Rattle.std.proofs.Common.{◌≡◌, ◌+◌, ◌*◌, ◌^◌, ◌<◌, ◌≤◌, ◌⊎◌, true, false, length, Some, refl, sym, ap, ◌∙◌, subst, arith}
use Rattle.flat_machine.specs.declared.config.Config.{Config}
use Rattle.machine_steps.specs.Machines.{MachineLists}
use Rattle.machine_steps.specs.Standing.{HasRunning}
use Rattle.schedules.specs.Sweeps.{IsFault, IsInRound, IsStop, WasAskedRound}
use Rattle.schedules.proofs.Going.{full_ends, quiet_here, row_goes_on, row_step, step_ends, step_goes_on}
use Rattle.schedules.proofs.Takers.{one_config}
use Rattle.schedules.proofs.sweeping.take_row.Goals as goal

pub loop-taker-init : goal.loop-taker-init
loop-taker-init g c = record {
  config = refl;
  most = refl;
  stages = subst (λ (m : MachineLists). m.config.k ≤ 6) c.machine-machine.ensures c.machine_is_well_formed.ensures.limits.stages;
  wire = omega arith;
  on = λ before is. (before, is, λ start b. subst (λ n. IsInRound c.args.limit start n before) (omega arith) b);
}

pub returns-in_err-next-clause-gone : goal.returns-in_err-next-clause-gone
returns-in_err-next-clause-gone g c before is =
    let i = c.loop-taker.invariant in
    let on = i.on before is in
    let l = on.0 in
    let here = g.met.T.StepTaker.of_machine c.loop-taker.taker l on.1 in
    let first = g.met.T.StepTaker.of_machine c.args.taker.now before is in
    let config = one_config l before here.machine i.config first.machine in
    let k = before.machine.config.k in
    let number = g.R.Row.number c.args.row.now in
    let size : l.machine.config.k ≡ k = ap (λ (d : Config). d.k) config in
    let few : k ≤ 6 = subst (λ n. n ≤ 6) size (subst (λ (m : MachineLists). m.config.k ≤ 6) (sym here.machine) i.stages) in
    let row = subst (λ (m : MachineLists). g.R.Row.is_there c.args.row.now m.config.k) (sym first.machine) c.requires.there in
    let wire : c.loop-taker.wire ≤ 2 ^ k = subst (λ (m : MachineLists). c.loop-taker.wire ≤ 2 ^ m.config.k) (sym first.machine) i.wire in (
      l,
      on.1,
      record {
        config = config;
        on = λ e start b.
            row_goes_on c.args.limit k (number k) c.loop-taker.wire start l few (g.met.R.Row.is_within c.args.row.now k row) wire size (on.2 start b)
            (quiet_here number c.machine.result.now l.machine k c.loop-taker.wire (c.machine.ensures ∙ sym here.machine) size
            (c.in_err-next.ensures.none refl));
        ended = λ is_over e. absurd (cc);
      },
    )

pub returns-then-is_over-clause-gone : goal.returns-then-is_over-clause-gone
returns-then-is_over-clause-gone g c before is =
    let i = c.loop-taker.invariant in
    let on = i.on before is in
    let l = on.0 in
    let here = g.met.T.StepTaker.of_machine c.loop-taker.taker l on.1 in
    let first = g.met.T.StepTaker.of_machine c.args.taker.now before is in
    let config = one_config l before here.machine i.config first.machine in
    let k = before.machine.config.k in
    let number = g.R.Row.number c.args.row.now in
    let next = c.in_ok-next.next in
    let size : l.machine.config.k ≡ k = ap (λ (d : Config). d.k) config in
    let few : k ≤ 6 = subst (λ n. n ≤ 6) size (subst (λ (m : MachineLists). m.config.k ≤ 6) (sym here.machine) i.stages) in
    let row = subst (λ (m : MachineLists). g.R.Row.is_there c.args.row.now m.config.k) (sym first.machine) c.requires.there in
    let there = row_step number c.machine.result.now l.machine k c.loop-taker.wire next c.step.result (c.machine.ensures ∙ sym here.machine) size
    (c.in_ok-next.ensures.ahead, c.in_ok-next.ensures.wire, c.in_ok-next.ensures.first) (c.step.ensures k few row) in
    let taken = c.step-outcome.ensures.taken l on.1 in
    let new = taken.0 in
    let after = g.met.T.StepTaker.of_machine c.step-outcome.new.self new taken.1 in
    let inside : length l.steps < c.args.limit =
    (let count = here.count in let seen = c.count.ensures in omega (arith, count, seen, c.loop-taker-test.true)) in
    let over : IsFault c.step-outcome.result ⊎ (HasRunning new.machine → ⊥) =
    subst (λ m. IsFault c.step-outcome.result ⊎ (HasRunning m → ⊥)) (c.machine-in-loop-taker.ensures ∙ sym after.machine) (c.if-is_over.ensures.over refl) in (
      new,
      taken.1,
      record {
        config = taken.2.step.config ∙ config;
        on = λ e. absurd (cc);
        ended = λ is_over e start room b.
            subst (λ x. WasAskedRound c.args.limit start x new) (let same : true ≡ is_over = cc in same)
            (step_ends c.args.limit start l new (number k * 2 ^ k + c.loop-taker.wire) (number k * 2 ^ k + (next + 1)) c.step.result c.step-outcome.result
            (on.2 start b) there.1 taken.2 after.replay inside over);
      },
    )

pub returns-clause-gone : goal.returns-clause-gone
returns-clause-gone g c before is =
    let i = c.loop-taker.invariant in
    let on = i.on before is in
    let l = on.0 in
    let here = g.met.T.StepTaker.of_machine c.loop-taker.taker l on.1 in
    let first = g.met.T.StepTaker.of_machine c.args.taker.now before is in
    let k = before.machine.config.k in
    let full : c.args.limit ≤ length l.steps =
    (let count = here.count in let seen = c.count.ensures in omega (arith, count, seen, c.loop-taker-test.false)) in (
      l,
      on.1,
      record {
        config = one_config l before here.machine i.config first.machine;
        on = λ e. absurd (cc);
        ended = λ is_over e start room b.
            subst (λ x. WasAskedRound c.args.limit start x l) (let same : false ≡ is_over = cc in same)
            (full_ends c.args.limit start l (g.R.Row.number c.args.row.now k * 2 ^ k + c.loop-taker.wire) (on.2 start b) room full);
      },
    )

pub loop-taker-preserved : goal.loop-taker-preserved
loop-taker-preserved g c =
    let i = c.loop-taker.invariant in
    let next = c.in_ok-next.next in
    let same = ap (λ (m : MachineLists). m.config) c.machine.ensures in
    let less : next < 2 ^ (g.T.StepTaker.machine c.args.taker.now).config.k =
    subst (λ (d : Config). next < 2 ^ d.k) (same ∙ i.config) c.in_ok-next.ensures.wire in
    record {
      config = c.step-outcome.ensures.step.config ∙ i.config;
      most = c.step-outcome.ensures.most ∙ i.most;
      stages = subst (λ (d : Config). d.k ≤ 6) (sym c.step-outcome.ensures.step.config) i.stages;
      wire = omega (arith, less);
      on = λ before is.
          let on = i.on before is in
          let l = on.0 in
          let here = g.met.T.StepTaker.of_machine c.loop-taker.taker l on.1 in
          let first = g.met.T.StepTaker.of_machine c.args.taker.now before is in
          let config = one_config l before here.machine i.config first.machine in
          let k = before.machine.config.k in
          let number = g.R.Row.number c.args.row.now in
          let size : l.machine.config.k ≡ k = ap (λ (d : Config). d.k) config in
          let few : k ≤ 6 = subst (λ n. n ≤ 6) size (subst (λ (m : MachineLists). m.config.k ≤ 6) (sym here.machine) i.stages) in
          let row = subst (λ (m : MachineLists). g.R.Row.is_there c.args.row.now m.config.k) (sym first.machine) c.requires.there in
          let there = row_step number c.machine.result.now l.machine k c.loop-taker.wire next c.step.result (c.machine.ensures ∙ sym here.machine) size
          (c.in_ok-next.ensures.ahead, c.in_ok-next.ensures.wire, c.in_ok-next.ensures.first) (c.step.ensures k few row) in
          let taken = c.step-outcome.ensures.taken l on.1 in
          let new = taken.0 in
          let after = g.met.T.StepTaker.of_machine c.step-outcome.new.self new taken.1 in
          let inside : length l.steps < c.args.limit =
          (let count = here.count in let seen = c.count.ensures in omega (arith, count, seen, c.loop-taker-test.true)) in
          let plain : (IsFault c.step-outcome.result → ⊥) × ((IsStop c.step-outcome.result → ⊥) ⊎ HasRunning new.machine) =
          subst (λ m. (IsFault c.step-outcome.result → ⊥) × ((IsStop c.step-outcome.result → ⊥) ⊎ HasRunning m))
          (c.machine-in-loop-taker.ensures ∙ sym after.machine) (c.if-is_over.ensures.not refl) in (
            new,
            taken.1,
            λ start b.
                step_goes_on c.args.limit start l new (number k * 2 ^ k + c.loop-taker.wire) (number k * 2 ^ k + (next + 1)) c.step.result
                c.step-outcome.result (on.2 start b) there.1 taken.2 after.replay inside plain,
          );
    }
