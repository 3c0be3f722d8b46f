use Rattle.std.proofs.Common.{sym}
use Rattle.trace_text.proofs.Cutting.{position-none}
use Rattle.trace_text.proofs.words.cut_line.Goals as goal

pub returns-in-None-clause-parts : goal.returns-in-None-clause-parts
returns-in-None-clause-parts c = position-none _ _ (sym c.in-None.ensures)
