use Rattle.asm_lines.proofs.Blanks.{marks_change_nothing, colon_changes_nothing, ends_change_nothing}
use Rattle.asm_lines.proofs.laws.blanks_change_nothing.Goals as goal

pub returns-clause-marks : goal.returns-clause-marks
returns-clause-marks c = marks_change_nothing

pub returns-clause-colon : goal.returns-clause-colon
returns-clause-colon c = colon_changes_nothing

pub returns-clause-ends : goal.returns-clause-ends
returns-clause-ends c = ends_change_nothing
