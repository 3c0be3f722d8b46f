use Rattle.std.proofs.Common.{length}
use Rattle.line_shapes.proofs.objects.+write_members.Given as goal

abbrev pub decreases-write_members : goal.decreases-write_members
decreases-write_members l = length l.parts.now
