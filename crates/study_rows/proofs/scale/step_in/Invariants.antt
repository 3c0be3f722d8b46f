use Rattle.std.proofs.Common.{◌≡◌, drop}
use Rattle.study_rows.specs.Scales.{step_in}
use Rattle.study_rows.proofs.scale.step_in.Given as goal

abbrev pub invariant-loop-power : goal.invariant-loop-power
invariant-loop-power l = step_in (drop l.power-index l.powers) l.number ≡ step_in l.powers l.number
