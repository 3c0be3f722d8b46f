use Rattle.word_faults.proofs.Cutting.{body_within}
use Rattle.word_faults.proofs.piece.Piece.bracket_parts.Goals as goal

pub round_bracket-requires : goal.round_bracket-requires
round_bracket-requires c = body_within 40 c.args.self.bytes.now c.in-Some.front.now c.in-Some.inside.now c.in-Some.ensures
