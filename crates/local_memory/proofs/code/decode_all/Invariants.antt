use Rattle.local_memory.specs.Decoded.{AreDecoded}
use Rattle.local_memory.proofs.code.decode_all.Given as goal

abbrev pub invariant-loop-index : goal.invariant-loop-index
invariant-loop-index l = AreDecoded l.bytes l.insns.items l.index
