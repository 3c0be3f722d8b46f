use Rattle.asm_lines.proofs.RoundTrip.{written_read}
use Rattle.asm_lines.proofs.laws.written_again.Goals as goal

pub returns-clause-one_line : goal.returns-clause-one_line
returns-clause-one_line c = λ i range. (written_read i range).one_line

pub returns-clause-read : goal.returns-clause-read
returns-clause-read c = λ i range. (written_read i range).read
