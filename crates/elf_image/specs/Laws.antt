-- What the laws of images state.
use Rattle.std.specs.Prelude.{◌≡◌, ◌⊎◌, ℕ, ◌+◌, ◌-◌, ◌*◌, ◌/◌, ◌%◌, ◌^◌, ◌<◌, ◌≤◌, true, false, List, length, Some}
use Rattle.std.specs.Prelude.{slice_get, slice_index}
use Rattle.flat_machine.specs.declared.config.Config.{Config}
use Rattle.flat_machine.specs.declared.event.Status.TheVariants.{Running}
use Rattle.flat_machine.specs.Words.{part_of}
use Rattle.flat_machine.specs.Memory.{in_code, in_local, in_shared}
use Rattle.flat_machine.specs.State.{Processor, FlatState}
use Rattle.elf_image.specs.declared.error.ImageError.{ImageError}
use Rattle.elf_image.specs.declared.error.ImageError.TheVariants as error
use Rattle.elf_image.specs.declared.layout.Layout.{Layout}
use Rattle.elf_image.specs.declared.region.Region.{Region}
use Rattle.elf_image.specs.declared.segment.ProgramHeader.{ProgramHeader}
use Rattle.elf_image.specs.Headers.{file_header, segments}
use Rattle.elf_image.specs.Refusals.{is_executable, is_supported, is_entry}
use Rattle.elf_image.specs.Segments.{Sets, byte_of, IsUnset}
use Rattle.elf_image.specs.Images.{LiesIn}

-- What the file has at an address: the byte that a segment sets there, and zero if none does.
pub record IsByteAt (file : List ℕ) (address byte : ℕ) : Type 0 where
  pub set : (k : ℕ) (p : ProgramHeader) → slice_get (segments file) k ≡ Some p → Sets p address →
      byte ≡ byte_of file p address
  pub unset : IsUnset (segments file) address → byte ≡ 0

-- What a layout has at an address: a byte of the region that the address is in, and zero after the last one.
pub record IsPlacedAt (layout : Layout) (address byte : ℕ) : Type 0 where
  pub code : in_code address ≡ true → byte ≡ slice_index layout.code (address - 0x10000)
  pub local : in_local address ≡ true → byte ≡ slice_index layout.local (address - 0x20000)
  pub shared : 2 ^ 31 ≤ address → byte ≡ slice_index layout.shared (address - 2 ^ 31)

-- A processor opens at an entry: it is there, its registers are zero, and it runs. Each of the 2¹⁶ bytes of its local
-- memory is one that may be at its address.
pub record IsOpeningProcessor (entry : ℕ) (IsAt : (address byte : ℕ) → Type 0) (p : Processor) : Type 0 where
  pub pc : p.pc ≡ entry
  pub registers : length p.registers ≡ 32
  pub zero : (r : ℕ) → slice_index p.registers r ≡ 0
  pub running : p.status ≡ Running
  pub local_size : length p.local ≡ 2 ^ 16
  pub local : (address : ℕ) → in_local address ≡ true → IsAt address (slice_index p.local (address % 2 ^ 16))

-- The flat machine of a configuration opens at an entry, and each of its bytes is one that may be at its address. Its
-- code has 2¹⁶ bytes.
pub record IsOpening (entry : ℕ) (IsAt : (address byte : ℕ) → Type 0) (config : Config) (m : FlatState) : Type 0 where
  pub count : length m.processors ≡ 2 ^ config.k
  pub processors : (k : ℕ) (p : Processor) → slice_get m.processors k ≡ Some p → IsOpeningProcessor entry IsAt p
  pub words : length m.shared ≡ config.shared_words
  pub shared :
      (address : ℕ) → in_shared config.shared_words address ≡ true →
      IsAt address (part_of 1 (address % 4) (slice_index m.shared ((address - 2 ^ 31) / 4)))
  pub code_size : length m.code ≡ 2 ^ 16
  pub code : (address : ℕ) → in_code address ≡ true → IsAt address (slice_index m.code (address % 2 ^ 16))

-- The flat machine of a configuration opens on a file, address by address.
abbrev pub IsFileOpening : List ℕ → Config → FlatState → Type 0
IsFileOpening file config m = IsOpening (file_header file).e_entry (IsByteAt file) config m

-- The flat machine of a configuration opens on a layout, address by address.
abbrev pub IsLayoutOpening : Layout → Config → FlatState → Type 0
IsLayoutOpening layout config m = IsOpening layout.entry (IsPlacedAt layout) config m

-- A machine can open on the layout: code and local memory have room for their parts, and the shared part is bytes.
pub record IsOpenable (layout : Layout) : Type 0 where
  pub code : length layout.code ≤ 0x10000
  pub local : length layout.local ≤ 0x10000
  pub bytes : (i : ℕ) → slice_index layout.shared i < 256

-- What is wrong with a refused file, in terms of its bytes and of addresses.
abbrev pub HasCause : (shared_words : ℕ) → List ℕ → ImageError → Type 0
HasCause shared_words file error.Truncated =
    (length file < 52) ⊎ (length file < (file_header file).e_phoff + 32 * (file_header file).e_phnum)
HasCause shared_words file error.NotExecutable = is_executable file (file_header file) ≡ false
HasCause shared_words file error.UnsupportedHeader = is_supported (file_header file) ≡ false
HasCause shared_words file error.OutsideInput =
    (k : ℕ) × (p : ProgramHeader) × (slice_get (segments file) k ≡ Some p)
    × ((length file < p.p_offset + p.p_filesz) ⊎ (p.p_memsz < p.p_filesz))
HasCause shared_words file error.OutsideRegions =
    (k : ℕ) × (p : ProgramHeader) × (slice_get (segments file) k ≡ Some p) × (0 < p.p_memsz)
    × ((region : Region) → LiesIn shared_words region p → ⊥)
HasCause shared_words file error.Overlap =
    (j : ℕ) × (k : ℕ) × (p : ProgramHeader) × (q : ProgramHeader) × (address : ℕ) × (j < k)
    × (slice_get (segments file) j ≡ Some p) × (slice_get (segments file) k ≡ Some q) × Sets p address × Sets q address
HasCause shared_words file error.Entry = is_entry (file_header file).e_entry ≡ false
HasCause shared_words file error.TooLong = 1048576 < length file
HasCause shared_words file error.Link = ⊥
HasCause shared_words file error.Memory = ⊥
