use Rattle.std.proofs.Common.{sym}
use Rattle.trace_text.proofs.Cutting.{position-none}
use Rattle.trace_text.proofs.words.cut_blank.Goals as goal

pub returns-in-None : goal.returns-in-None
returns-in-None c = position-none _ _ (sym c.in-None.ensures)
