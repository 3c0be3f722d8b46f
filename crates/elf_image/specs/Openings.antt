-- How a machine opens on a layout.
use Rattle.std.specs.Prelude.{ℕ, ◌*◌, ◌^◌, List, map, replicate}
use Rattle.std.specs.List.{range_with_len}
use Rattle.flat_machine.specs.declared.config.Config.{Config}
use Rattle.flat_machine.specs.declared.event.Status.TheVariants.{Running}
use Rattle.flat_machine.specs.Memory.{number_at}
use Rattle.flat_machine.specs.State.{Processor, FlatState}
unfoldable pub use Rattle.local_memory.specs.Accesses.{padded}
pub use Rattle.local_memory.specs.Accesses.{region_of_bytes}
use Rattle.elf_image.specs.declared.layout.Layout.{Layout}

-- this many little-endian words, which begin with these bytes and are zero after them
abbrev pub words_of : List ℕ → (count : ℕ) → List ℕ
words_of bytes count = map (λ i. number_at bytes (4 * i) 4) (range_with_len 0 count)

-- a processor at the entry that runs, with registers of zero and a local memory that begins with the local bytes
abbrev pub opening_processor : Layout → Processor
opening_processor layout = record {
  pc = layout.entry;
  registers = replicate 32 0;
  local = region_of_bytes layout.local;
  status = Running;
}

-- the flat machine of a configuration that opens on a layout
abbrev pub opening : Config → Layout → FlatState
opening config layout = record {
  processors = replicate (2 ^ config.k) (opening_processor layout);
  shared = words_of layout.shared config.shared_words;
  code = region_of_bytes layout.code;
}
