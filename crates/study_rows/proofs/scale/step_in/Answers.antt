use Rattle.std.proofs.Common.{sym, ap, ◌∙◌, arith}
use Rattle.std.proofs.lemmas.List.{drop_all}
use Rattle.study_rows.specs.Scales.{step_in}
use Rattle.study_rows.proofs.Scaling.{step_found, step_passed}
use Rattle.study_rows.proofs.scale.step_in.Goals as goal

pub returns-in-Some-clause-exact : goal.returns-in-Some-clause-exact
returns-in-Some-clause-exact c =
    sym (step_found c.args.powers.now c.loop-power.power-index c.args.number c.loop-power-test.true c.in-Some.step (sym c.in-Some.ensures.exact))
    ∙ c.loop-power.invariant

pub loop-power-preserved : goal.loop-power-preserved
loop-power-preserved c =
    step_passed c.args.powers.now c.loop-power.power-index c.args.number c.loop-power-test.true (sym c.in_default.ensures.exact)
    ∙ c.loop-power.invariant

pub returns-clause-exact : goal.returns-clause-exact
unfolding step_in
returns-clause-exact c =
    sym (ap (λ ps. step_in ps c.args.number) (drop_all c.loop-power.power-index c.args.powers.now (omega arith))) ∙ c.loop-power.invariant
