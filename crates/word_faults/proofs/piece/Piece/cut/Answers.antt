use Rattle.std.proofs.Common.{sym, ◌==◌}
use Rattle.word_faults.proofs.Cutting.{position_none}
use Rattle.word_faults.proofs.piece.Piece.cut.Goals as goal

pub returns-in-None-clause-parts : goal.returns-in-None-clause-parts
returns-in-None-clause-parts c = position_none (λ b. b == c.args.mark) c.args.self.bytes.now (sym c.in-None.ensures)
