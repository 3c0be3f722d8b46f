use Rattle.std.proofs.Common.{arith}
use Rattle.words_command.proofs.command.words_command.Goals as goal

pub returns-in-Err-clause-reported : goal.returns-in-Err-clause-reported
returns-in-Err-clause-reported g c = λ low. absurd (omega (arith, low, c.report_fault.ensures.high))
