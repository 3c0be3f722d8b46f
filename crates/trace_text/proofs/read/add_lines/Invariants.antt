use Rattle.std.proofs.Common.{◌≡◌, ◌≤◌, ◌+◌, length}
use Rattle.asm_lines.specs.Text.{parts_at}
use Rattle.trace_text.specs.Steps.{said_from}
use Rattle.trace_text.proofs.read.add_lines.Given as goal

-- What the lines so far say, followed by the rest, is what all lines say.
abbrev pub invariant-loop-line : goal.invariant-loop-line
invariant-loop-line l = (said_from 0 l.fn.said (parts_at 10 l.text) ≡ said_from l.count l.said (parts_at 10 l.rest)) × (l.count + length l.rest ≤ length l.text)

abbrev pub decreases-loop-line : goal.decreases-loop-line
decreases-loop-line l = length l.rest
