use Rattle.std.proofs.Common.{sym, ◌∙◌}
use Rattle.assembler.proofs.LineByLine.{same_layout}
use Rattle.assembler.proofs.laws.one_meaning.Goals as goal

pub returns : goal.returns
returns c = λ text one other m n. same_layout one other (m.entry ∙ sym n.entry) (m.code ∙ sym n.code) (m.local ∙ sym n.local) (m.shared ∙ sym n.shared)
