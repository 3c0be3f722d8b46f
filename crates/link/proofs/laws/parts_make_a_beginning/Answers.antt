use Rattle.link.proofs.Parts.{part_front, part_after}
use Rattle.link.proofs.laws.parts_make_a_beginning.Goals as goal

pub returns-clause-first : goal.returns-clause-first
returns-clause-first c = part_front

pub returns-clause-rest : goal.returns-clause-rest
returns-clause-rest c = part_after
