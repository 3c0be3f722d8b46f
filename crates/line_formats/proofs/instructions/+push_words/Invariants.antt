use Rattle.std.proofs.Common.{length}
use Rattle.line_formats.proofs.instructions.+push_words.Given as goal

abbrev pub decreases-push_words : goal.decreases-push_words
decreases-push_words g l = length l.words.now
