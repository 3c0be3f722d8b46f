use Rattle.debug_session.proofs.Writing.{AreWritten}
use Rattle.debug_session.proofs.acting.write.Given as goal

-- The array has the writes of the first bytes.
abbrev pub invariant-loop-i : goal.invariant-loop-i
invariant-loop-i l = AreWritten l.processor l.address l.i l.values l.pokes
