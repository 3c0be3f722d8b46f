use Rattle.asm_lines.proofs.Comments.{comment_left_out}
use Rattle.asm_lines.proofs.laws.comments_change_nothing.Goals as goal

pub returns : goal.returns
returns c = comment_left_out
