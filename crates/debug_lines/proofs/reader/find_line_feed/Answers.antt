use Rattle.std.proofs.Common.{rules}
use Rattle.debug_lines.proofs.Reading.{IsUnbroken-more}
use Rattle.debug_lines.proofs.reader.find_line_feed.Goals as goal

pub loop-i-preserved : goal.loop-i-preserved
loop-i-preserved c = IsUnbroken-more _ _ (search rules) (search rules) c.loop-i.invariant
