use Rattle.std.proofs.Common.{length}
use Rattle.line_shapes.proofs.fields.+are_items.Given as goal

abbrev pub decreases-are_items : goal.decreases-are_items
decreases-are_items l = length l.text.now
