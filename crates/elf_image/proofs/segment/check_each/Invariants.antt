use Rattle.std.proofs.Common.{◌≡◌, drop}
use Rattle.elf_image.specs.Refusals.{first_of, segment_refusals}
use Rattle.elf_image.proofs.segment.check_each.Given as goal

-- The first refusal of all segments is that of the remaining ones.
abbrev pub invariant-loop-segment : goal.invariant-loop-segment
invariant-loop-segment l =
    first_of (segment_refusals l.file_bytes l.shared_words (drop l.segment-index l.segments))
    ≡ first_of (segment_refusals l.file_bytes l.shared_words l.segments)
