use Rattle.course_text.specs.Constants.{constant_values}
use Rattle.course_text.proofs.Lines.{RewrittenSoFar}
use Rattle.course_text.proofs.text.rewrite_lines.Given as goal

abbrev pub invariant-loop-at : goal.invariant-loop-at
invariant-loop-at l = RewrittenSoFar (constant_values l.constants) l.lines l.at l.place l.plain.text.items l.plain.origins.items
