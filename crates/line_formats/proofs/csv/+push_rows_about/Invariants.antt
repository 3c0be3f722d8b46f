use Rattle.std.proofs.Common.{length}
use Rattle.line_formats.proofs.csv.+push_rows_about.Given as goal

abbrev pub decreases-push_rows_about : goal.decreases-push_rows_about
decreases-push_rows_about l = length l.parts.now
