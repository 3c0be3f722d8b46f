use Rattle.std.proofs.Common.{ap, ◌∙◌, is_some}
use Rattle.line_shapes.proofs.Writing.{number_there, pair_there}
use Rattle.line_shapes.proofs.fields.write_item.Goals as goal

pub number-requires : goal.number-requires
number-requires c =
    let found = rw c.in-Some-One.field-0-is at c.in-Some-One.ensures in
    number_there _ (ap is_some found.0 ∙ found.1)

pub number-requires-in-Some-Pair : goal.number-requires-in-Some-Pair
number-requires-in-Some-Pair c =
    let found = rw c.in-Some-Pair.field-0-is at c.in-Some-Pair.ensures in
    (pair_there _ _ (ap is_some found.0 ∙ found.1)).0

pub number-requires-in-Some-Pair-2 : goal.number-requires-in-Some-Pair-2
number-requires-in-Some-Pair-2 c =
    let found = rw c.in-Some-Pair.field-0-is at c.in-Some-Pair.ensures in
    (pair_there _ _ (ap is_some found.0 ∙ found.1)).1
