use Rattle.std.proofs.Common.{◌≡◌, take}
use Rattle.study_rows.specs.Scales.{greatest_of}
use Rattle.study_rows.proofs.scale.greatest_of.Given as goal

abbrev pub invariant-loop-row : goal.invariant-loop-row
invariant-loop-row l = l.greatest ≡ greatest_of l.column (take l.row-index l.rows)
