use Rattle.std.proofs.Common.{length}
use Rattle.line_shapes.proofs.parts.+has_parts.Given as goal

abbrev pub decreases-has_parts : goal.decreases-has_parts
decreases-has_parts l = length l.parts.now
