use Rattle.line_shapes.proofs.Writing.{number_there}
use Rattle.line_shapes.proofs.fields.Found.write.Goals as goal

pub number-requires : goal.number-requires
number-requires c = number_there _ (rw c.in-Number.is at c.requires)
