use Rattle.local_reduction.proofs.Tables.{HasLiveBelow}
use Rattle.local_reduction.proofs.table.LiveTable.is_right_at.Given as goal

abbrev pub invariant-loop-number : goal.invariant-loop-number
invariant-loop-number l = HasLiveBelow l.self l.pc l.insn l.number
