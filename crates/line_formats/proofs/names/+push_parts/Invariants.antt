use Rattle.std.proofs.Common.{length}
use Rattle.line_formats.proofs.names.+push_parts.Given as goal

abbrev pub decreases-push_parts : goal.decreases-push_parts
decreases-push_parts g l = length l.parts.now
