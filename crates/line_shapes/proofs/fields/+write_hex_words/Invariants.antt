use Rattle.std.proofs.Common.{length}
use Rattle.line_shapes.proofs.fields.+write_hex_words.Given as goal

abbrev pub decreases-write_hex_words : goal.decreases-write_hex_words
decreases-write_hex_words l = length l.text.now
