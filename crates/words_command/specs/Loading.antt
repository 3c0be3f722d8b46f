-- The machine that opens on words.
use Rattle.std.specs.Int.{w32, to_le_bytes}
use Rattle.std.specs.Prelude.{ℕ, ◌^◌, List, [], ◌∷◌, ◌++◌, replicate}
use Rattle.flat_machine.specs.declared.event.Status.TheVariants.{Running}
use Rattle.flat_machine.specs.State.{FlatState}
use Rattle.elf_image.specs.local_memory.Accesses.{region_of_bytes}
use Rattle.elf_image.specs.declared.error.ImageError.{ImageError}
use Rattle.elf_image.specs.declared.error.ImageError.TheVariants as error
use Rattle.elf_image.specs.declared.layout.Layout.{Layout}

-- the little-endian bytes of words, one word after another
abbrev pub bytes_of_words : List ℕ → List ℕ
bytes_of_words [] = []
bytes_of_words (w ∷ ws) = to_le_bytes w32 w ++ bytes_of_words ws

-- the flat machine that opens on words: one processor at the first address of code, which begins with the words, and
-- 1,024 shared words; everything else is zero
abbrev pub flat_of_words : List ℕ → FlatState
flat_of_words words = record {
  processors = record { pc = 2 ^ 16; registers = replicate 32 0; local = region_of_bytes []; status = Running } ∷ [];
  shared = replicate 1024 0;
  code = region_of_bytes (bytes_of_words words);
}

-- the layout of words: they are code, and the processor starts at the first of them
abbrev pub layout_of_words : List ℕ → Layout
layout_of_words words = record { entry = 2 ^ 16; code = bytes_of_words words; local = []; shared = [] }

-- The image was not written to memory, or not read back, because there was no memory. Nothing else can go wrong.
abbrev pub IsLinkOrMemory : ImageError → Type 0
IsLinkOrMemory error.Link = Unit {0}
IsLinkOrMemory error.Memory = Unit {0}
IsLinkOrMemory refusal = ⊥
