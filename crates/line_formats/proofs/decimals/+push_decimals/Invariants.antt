use Rattle.std.proofs.Common.{length}
use Rattle.line_formats.proofs.decimals.+push_decimals.Given as goal

abbrev pub decreases-push_decimals : goal.decreases-push_decimals
decreases-push_decimals l = length l.words.now
