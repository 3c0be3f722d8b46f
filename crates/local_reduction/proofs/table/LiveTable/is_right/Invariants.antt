use Rattle.local_reduction.proofs.Tables.{HasLiveInWords}
use Rattle.local_reduction.proofs.table.LiveTable.is_right.Given as goal

abbrev pub invariant-loop-word : goal.invariant-loop-word
invariant-loop-word l = HasLiveInWords l.code l.self l.word
