use Rattle.std.proofs.Common.{◌≡◌, None, map, length}
use Rattle.asm_lines.specs.Names.{name_of, mnemonics}
use Rattle.word_faults.specs.FirstWords.{nearest_of}
use Rattle.word_faults.specs.Views.{near_view}
use Rattle.word_faults.proofs.words.near_mnemonic.Given as goal

abbrev pub invariant-loop-rest : goal.invariant-loop-rest
invariant-loop-rest l = nearest_of l.word (near_view l.nearest) (map name_of l.rest) ≡ nearest_of l.word None (map name_of mnemonics)

abbrev pub decreases-loop-rest : goal.decreases-loop-rest
decreases-loop-rest l = length l.rest
