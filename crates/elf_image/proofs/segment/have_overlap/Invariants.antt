use Rattle.std.proofs.Common.{◌≡◌, drop}
use Rattle.elf_image.specs.Refusals.{have_overlap}
use Rattle.elf_image.proofs.segment.have_overlap.Given as goal

-- Two segments overlap exactly if two of the remaining ones do.
abbrev pub invariant-loop-index : goal.invariant-loop-index
invariant-loop-index l = have_overlap (drop l.index l.segments) ≡ have_overlap l.segments
