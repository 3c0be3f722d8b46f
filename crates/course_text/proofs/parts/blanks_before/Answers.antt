use Rattle.std.proofs.Common.{sym}
use Rattle.std.specs.Prelude.{not}
use Rattle.asm_lines.specs.Text.{is_blank}
use Rattle.course_text.proofs.Positions.{position_none}
use Rattle.course_text.proofs.parts.blanks_before.Goals as goal

pub returns-in-None-clause-value : goal.returns-in-None-clause-value
returns-in-None-clause-value c = sym (position_none (λ b. not (is_blank b)) c.args.text.now (sym c.in-None.ensures))
