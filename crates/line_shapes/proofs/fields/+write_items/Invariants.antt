use Rattle.std.proofs.Common.{length}
use Rattle.line_shapes.proofs.fields.+write_items.Given as goal

abbrev pub decreases-write_items : goal.decreases-write_items
decreases-write_items l = length l.text.now
