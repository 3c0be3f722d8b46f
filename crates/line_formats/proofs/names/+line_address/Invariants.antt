use Rattle.std.proofs.Common.{length}
use Rattle.line_formats.proofs.names.+line_address.Given as goal

abbrev pub decreases-line_address : goal.decreases-line_address
decreases-line_address l = length l.parts.now
