use Rattle.std.proofs.Common.{take}
use Rattle.study_command.specs.Rows.{AreRows}
use Rattle.study_command.proofs.running.rows_of.Given as goal

abbrev pub invariant-loop-size : goal.invariant-loop-size
invariant-loop-size l = AreRows l.budget l.image l.config (take l.size-index l.sizes) l.rows.items
