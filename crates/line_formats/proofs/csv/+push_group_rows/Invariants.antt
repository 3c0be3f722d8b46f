use Rattle.std.proofs.Common.{length}
use Rattle.line_formats.proofs.csv.+push_group_rows.Given as goal

abbrev pub decreases-push_group_rows : goal.decreases-push_group_rows
decreases-push_group_rows l = length l.words.now
