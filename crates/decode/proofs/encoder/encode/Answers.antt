use Rattle.std.proofs.Common.{◌≡◌, ◌+◌, ◌∙◌, sym}
use Rattle.rv_table.specs.Rows.{match_of}
use Rattle.decode.specs.Words.{operands_of}
use Rattle.decode.proofs.Operands.{spells, only}
use Rattle.decode.proofs.encoder.encode.Goals as goal

word_is : (c : goal.After-operands) → c.row_of.result.now.match_ + c.operands.result ≡ match_of c.args.insn.now + operands_of c.args.insn.now
word_is c = cc

pub returns-clause-spells : goal.returns-clause-spells
returns-clause-spells c = spells _ c.args.insn.now (word_is c) c.operands.ensures.in_range

pub returns-clause-only : goal.returns-clause-only
returns-clause-only c = λ w range s. only w c.args.insn.now range s ∙ sym (word_is c)
