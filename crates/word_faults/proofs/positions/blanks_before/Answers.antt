use Rattle.std.proofs.Common.{sym}
use Rattle.std.specs.Prelude.{not}
use Rattle.asm_lines.specs.Text.{is_blank}
use Rattle.word_faults.proofs.Cutting.{position_none, position_some}
use Rattle.word_faults.proofs.positions.blanks_before.Goals as goal

pub returns-in-Some : goal.returns-in-Some
returns-in-Some c = let h = position_some (λ b. not (is_blank b)) c.args.bytes.now c.in-Some.at (sym c.in-Some.ensures) in sym h.1

pub returns-in-None : goal.returns-in-None
returns-in-None c = sym (position_none (λ b. not (is_blank b)) c.args.bytes.now (sym c.in-None.ensures))
