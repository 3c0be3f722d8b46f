use Rattle.std.proofs.Common.{drop}
use Rattle.command_io.specs.FaultTexts.{joined}
use Rattle.command_io.proofs.Writing.{IsBegun}
use Rattle.command_io.proofs.printing.write_error_parts.Given as goal

abbrev pub invariant-loop-part : goal.invariant-loop-part
invariant-loop-part g l = IsBegun (g.E.Write.contents l.fn.err) (g.E.Write.contents l.err) (joined l.parts) (joined (drop l.part-index l.parts))
