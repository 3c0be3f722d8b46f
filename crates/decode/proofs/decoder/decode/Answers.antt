use Rattle.std.proofs.Common.{◌≡◌, ◌↔◌, Option, Some, sym, subst}
use Rattle.rv_table.specs.declared.insn.Insn.{Insn}
use Rattle.rv_table.specs.Rows.{Spells}
use Rattle.decode.proofs.Opcodes.{reading_is}
use Rattle.decode.proofs.decoder.decode.Goals as goal

pub returns-clause-value : goal.returns-clause-value
returns-clause-value c = reading_is c.args.word _ _ (c.spelled_is_read.ensures c.args.word) c.decode_by_opcode.ensures

pub returns-clause-exact : goal.returns-clause-exact
returns-clause-exact c = λ i.
    let HasReading : Option Insn → Type 0 = λ r. (r ≡ Some i) ↔ Spells c.args.word i in
    subst HasReading (sym (returns-clause-value c)) (c.spelled_is_read.ensures c.args.word i)
