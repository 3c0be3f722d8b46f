-- The flat state with which a machine opens on a text, address by address.
use Rattle.std.specs.Prelude.{◌≡◌, ◌⊎◌, ℕ, ◌-◌, ◌/◌, ◌%◌, ◌^◌, true, nat_lt, List, length, Option, Some, slice_get}
use Rattle.std.specs.Prelude.{slice_index, codes, if◌then◌else◌}
use Rattle.flat_machine.specs.declared.config.Config.{Config}
use Rattle.flat_machine.specs.declared.event.Status.TheVariants.{Running}
use Rattle.flat_machine.specs.Words.{part_of}
use Rattle.flat_machine.specs.Memory.{in_code, in_local, in_shared}
use Rattle.flat_machine.specs.State.{Processor, FlatState}
use Rattle.elf_image.specs.declared.error.ImageError.{ImageError}
use Rattle.elf_image.specs.declared.error.ImageError.TheVariants as error
use Rattle.elf_image.specs.declared.layout.Layout.{Layout}
use Rattle.elf_image.specs.Images.{ImageContents, IsAccepted, IsMeant, IsGiven, IsRefused}
use Rattle.elf_image.specs.Openings.{opening}
use Rattle.asm_lines.specs.declared.statement.Section.{Section}
use Rattle.asm_lines.specs.declared.statement.Section.TheVariants.{Code, Local, Shared}
use Rattle.assembler.specs.Meaning.{base_of, lines_of, pieces_of, section_bytes, labels_of, entry_of}

-- the entry of a text: its label `start`, or the first address of code
abbrev pub text_entry : (text : List ℕ) → ℕ
text_entry text = entry_of (labels_of (lines_of text) (codes "start"))

-- the byte that a text places at an address of a section; zero after the last byte
abbrev pub placed_byte : (text : List ℕ) → Section → (address : ℕ) → ℕ
placed_byte text s address =
    let bytes = section_bytes s (pieces_of (lines_of text)) in
    let place = address - base_of s in
    if nat_lt place (length bytes) then slice_index bytes place else 0

-- A processor opens on the text: it runs at the entry, its registers are zero, and its local memory is the text's.
pub record IsTextProcessor (text : List ℕ) (p : Processor) : Type 0 where
  pub pc : p.pc ≡ text_entry text
  pub registers : length p.registers ≡ 32
  pub zero : (r : ℕ) → slice_index p.registers r ≡ 0
  pub running : p.status ≡ Running
  pub local_size : length p.local ≡ 2 ^ 16
  pub local : (address : ℕ) → in_local address ≡ true →
      slice_index p.local (address % 2 ^ 16) ≡ placed_byte text Local address

-- The flat machine of a configuration opens on the text, address by address.
pub record IsTextOpening (text : List ℕ) (config : Config) (m : FlatState) : Type 0 where
  pub count : length m.processors ≡ 2 ^ config.k
  pub processors : (k : ℕ) (p : Processor) → slice_get m.processors k ≡ Some p → IsTextProcessor text p
  pub words : length m.shared ≡ config.shared_words
  pub shared :
      (address : ℕ) → in_shared config.shared_words address ≡ true →
      part_of 1 (address % 4) (slice_index m.shared ((address - 2 ^ 31) / 4)) ≡ placed_byte text Shared address
  pub code_size : length m.code ≡ 2 ^ 16
  pub code : (address : ℕ) → in_code address ≡ true →
      slice_index m.code (address % 2 ^ 16) ≡ placed_byte text Code address

-- Reading the bytes for a configuration gives an image on which a machine opens as on the text. Such an image exists,
-- and the only errors are a fault of the link and out of memory.
pub record IsReadAsText (text : List ℕ) (config : Config) (file : List ℕ) : Type 0 where
  pub accepted : IsAccepted config.shared_words file
  pub meant : (layout : Layout) × IsMeant config.shared_words file layout
  pub opens : (layout : Layout) → IsMeant config.shared_words file layout →
      IsTextOpening text config (opening config layout)
  pub given :
      (rest : Option (List ℕ)) (image : ImageContents) → IsGiven config.shared_words (Some file) rest image →
      IsTextOpening text config (opening config image.layout)
  pub refused : (rest : Option (List ℕ)) (e : ImageError) → IsRefused config.shared_words (Some file) rest e →
      (e ≡ error.Link) ⊎ (e ≡ error.Memory)
