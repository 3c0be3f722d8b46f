use Rattle.std.proofs.Common.{◌≡◌, take}
use Rattle.study_command.specs.Rows.{greatest_exit}
use Rattle.study_command.proofs.running.status_of.Given as goal

abbrev pub invariant-loop-row : goal.invariant-loop-row
invariant-loop-row l = l.status ≡ greatest_exit (take l.row-index l.rows)
