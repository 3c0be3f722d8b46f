use Rattle.asm_lines.proofs.Alike.{numeral_number, numerals_alike}
use Rattle.asm_lines.proofs.NumeralLines.{numeral_lines}
use Rattle.asm_lines.proofs.laws.numerals_are_read_alike.Goals as goal

pub returns-clause-number : goal.returns-clause-number
returns-clause-number c = numeral_number

pub returns-clause-alike : goal.returns-clause-alike
returns-clause-alike c = numerals_alike

pub returns-clause-lines : goal.returns-clause-lines
returns-clause-lines c = numeral_lines
