use Rattle.elf_image.specs.Loading.{IsExtent}
use Rattle.elf_image.proofs.load.extent.Given as goal

abbrev pub invariant-loop-segment : goal.invariant-loop-segment
invariant-loop-segment l = IsExtent l.segments l.shared_words l.region l.segment-index l.extent
