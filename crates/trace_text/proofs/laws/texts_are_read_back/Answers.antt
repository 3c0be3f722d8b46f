use Rattle.trace_text.proofs.ReadBack.{read_back}
use Rattle.trace_text.proofs.laws.texts_are_read_back.Goals as goal

pub returns : goal.returns
returns c t = read_back c.numerals_are_read_alike.ensures.number t
