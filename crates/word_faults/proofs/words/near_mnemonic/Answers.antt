use Rattle.std.proofs.Common.{List, None, ap, map}
use Rattle.asm_lines.specs.declared.mnemonic.Mnemonic.{Mnemonic}
use Rattle.asm_lines.specs.Names.{name_of}
use Rattle.word_faults.specs.FirstWords.{nearest_of}
use Rattle.word_faults.proofs.words.near_mnemonic.Goals as goal

pub loop-rest-init : goal.loop-rest-init
loop-rest-init c = ap (λ (ms : List Mnemonic). nearest_of c.args.word.now None (map name_of ms)) c.as_slice-rest.ensures
