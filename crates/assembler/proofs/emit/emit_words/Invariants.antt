use Rattle.assembler.proofs.Words.{WordsSoFar}
use Rattle.assembler.proofs.emit.emit_words.Given as goal

abbrev pub invariant-loop-value : goal.invariant-loop-value
invariant-loop-value l = WordsSoFar l.labels l.values l.value-index l.fn.out l.out
