use Rattle.debug_lines.proofs.Reading.{IsAfter-one}
use Rattle.debug_lines.proofs.laws.one_reading.Goals as goal

pub returns : goal.returns
returns c = IsAfter-one
