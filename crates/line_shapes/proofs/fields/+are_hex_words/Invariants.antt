use Rattle.std.proofs.Common.{length}
use Rattle.line_shapes.proofs.fields.+are_hex_words.Given as goal

abbrev pub decreases-are_hex_words : goal.decreases-are_hex_words
decreases-are_hex_words l = length l.text.now
