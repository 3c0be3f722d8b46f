use Rattle.std.proofs.Common.{◌≡◌, ◌++◌, eqb, length, map}
use Rattle.std.specs.List.{slice_split}
use Rattle.asm_lines.specs.Text.{trimmed}
use Rattle.asm_lines.proofs.text.operands_of.Given as goal

-- The parts so far, followed by those of the rest, are all parts.
abbrev pub invariant-loop-part : goal.invariant-loop-part
invariant-loop-part l =
    map (λ part. part.now) l.parts.items ++ map trimmed (slice_split (λ b. eqb b 44) l.rest) ≡ map trimmed (slice_split (λ b. eqb b 44) l.bytes)

abbrev pub decreases-loop-part : goal.decreases-loop-part
decreases-loop-part l = length l.rest
