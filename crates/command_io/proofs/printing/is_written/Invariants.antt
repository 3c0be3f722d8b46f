use Rattle.std.proofs.Common.{ℕ, length}
use Rattle.command_io.proofs.Writing.{IsBegun}
use Rattle.command_io.proofs.printing.is_written.Given as goal

abbrev pub invariant-loop-rest : goal.invariant-loop-rest
invariant-loop-rest g l = IsBegun (g.E.Write.contents l.fn.err) (g.E.Write.contents l.err) l.text l.rest

abbrev pub decreases-loop-rest : goal.decreases-loop-rest
decreases-loop-rest g l = length l.rest
