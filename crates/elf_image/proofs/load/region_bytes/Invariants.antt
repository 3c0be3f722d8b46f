use Rattle.std.proofs.Common.{length}
use Rattle.elf_image.specs.Loading.{IsExtent, AreLoaded}
use Rattle.elf_image.proofs.load.region_bytes.Given as goal

abbrev pub invariant-loop-segment : goal.invariant-loop-segment
invariant-loop-segment l =
    record {
      extent : IsExtent l.segments l.shared_words l.region (length l.segments) (length l.bytes.items);
      loaded : AreLoaded l.file l.segments l.shared_words l.region l.segment-index l.bytes.items;
    }
