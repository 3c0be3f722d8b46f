use Rattle.std.proofs.Common.{◌≡◌, ◌+◌, ◌*◌, ◌≤◌, drop}
use Rattle.course_text.specs.Forms.{bits_after, set_of}
use Rattle.course_text.proofs.fences.set_of.Given as goal

-- The bits so far are those of the set's beginning, and each of at most 15 more letters has a smaller bit than the last.
abbrev pub invariant-loop-letter : goal.invariant-loop-letter
invariant-loop-letter l = (l.bits + 16 * l.last ≤ 256) × (bits_after l.last l.bits (drop l.letter-index l.letters) ≡ set_of l.letters)
