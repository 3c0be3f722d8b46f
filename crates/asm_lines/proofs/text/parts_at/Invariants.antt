use Rattle.std.proofs.Common.{◌≡◌, ◌++◌, eqb, length, map}
use Rattle.std.specs.List.{slice_split}
use Rattle.asm_lines.proofs.text.parts_at.Given as goal

-- The parts so far, followed by those of the rest, are all parts.
abbrev pub invariant-loop-part : goal.invariant-loop-part
invariant-loop-part l =
    map (λ part. part.now) l.parts.items ++ map (λ x. x) (slice_split (λ b. eqb b l.mark) l.rest) ≡ map (λ x. x) (slice_split (λ b. eqb b l.mark) l.bytes)

abbrev pub decreases-loop-part : goal.decreases-loop-part
decreases-loop-part l = length l.rest
