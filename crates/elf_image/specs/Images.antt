-- Accepted input, and the image that it means.
use Rattle.std.specs.Prelude.{◌≡◌, ℕ, ◌+◌, ◌-◌, ◌*◌, ◌%◌, ◌<◌, ◌≤◌, Bool, true, List, length, Option, Some, slice_get}
use Rattle.std.specs.Prelude.{slice_index}
use Rattle.link.specs.Transfer.{ConsumesAll, ConsumesAtMost, ConsumesPast}
use Rattle.flat_machine.specs.Memory.{in_code, in_local, in_shared}
use Rattle.elf_image.specs.declared.error.ImageError.{ImageError}
use Rattle.elf_image.specs.declared.error.ImageError.TheVariants as error
use Rattle.elf_image.specs.declared.layout.Layout.{Layout}
use Rattle.elf_image.specs.declared.region.Region.{Region}
use Rattle.elf_image.specs.declared.region.Region.TheVariants.{Code, Local, Shared}
use Rattle.elf_image.specs.declared.segment.ProgramHeader.{ProgramHeader}
use Rattle.elf_image.specs.Headers.{file_header, segments}
use Rattle.elf_image.specs.Regions.{region_start, region_length, is_flagged}
use Rattle.elf_image.specs.Refusals.{is_executable, is_supported, is_entry, refusal_of}
use Rattle.elf_image.specs.Segments.{Sets, byte_of, IsSet, IsUnset}

-- ---- accepted input

-- whether the address is in the region
abbrev pub in_region : (shared_words : ℕ) → Region → (address : ℕ) → Bool
in_region shared_words Code address = in_code address
in_region shared_words Local address = in_local address
in_region shared_words Shared address = in_shared shared_words address

-- The segment's flags are those of the region, and each address that it sets is in the region.
pub record LiesIn (shared_words : ℕ) (region : Region) (p : ProgramHeader) : Type 0 where
  pub flagged : is_flagged region p.p_flags ≡ true
  pub inside : (address : ℕ) → Sets p address → in_region shared_words region address ≡ true

-- The bytes are an image for machines with this many shared words.
pub record IsAccepted (shared_words : ℕ) (file : List ℕ) : Type 0 where
  pub not_long : length file ≤ 1048576
  pub headed : 52 ≤ length file
  pub executable : is_executable file (file_header file) ≡ true
  pub supported : is_supported (file_header file) ≡ true
  -- the program header table ends within the file
  pub listed : (file_header file).e_phoff + 32 * (file_header file).e_phnum ≤ length file
  -- each segment's bytes end within the file, and the segment has room for them
  pub filed :
      (k : ℕ) (p : ProgramHeader) → slice_get (segments file) k ≡ Some p →
      (p.p_offset + p.p_filesz ≤ length file) × (p.p_filesz ≤ p.p_memsz)
  -- each segment that sets an address lies in one region
  pub placed : (k : ℕ) (p : ProgramHeader) → slice_get (segments file) k ≡ Some p → 0 < p.p_memsz →
      (region : Region) × LiesIn shared_words region p
  -- no two segments set the same address
  pub apart :
      (j k : ℕ) (p q : ProgramHeader) (address : ℕ) → slice_get (segments file) j ≡ Some p →
      slice_get (segments file) k ≡ Some q →
      Sets p address → Sets q address → j ≡ k
  pub entry : is_entry (file_header file).e_entry ≡ true

-- ---- what it means

-- The bytes of a region, to the last that a segment sets: each is what a segment sets there, or zero if none does.
pub record HasBytes (file : List ℕ) (shared_words : ℕ) (region : Region) (bytes : List ℕ) : Type 0 where
  pub set :
      (k : ℕ) (p : ProgramHeader) (i : ℕ) → slice_get (segments file) k ≡ Some p → i < length bytes →
      Sets p (region_start region + i) →
      slice_index bytes i ≡ byte_of file p (region_start region + i)
  pub unset : (i : ℕ) → i < length bytes → IsUnset (segments file) (region_start region + i) → slice_index bytes i ≡ 0
  pub after : (i : ℕ) → length bytes ≤ i → i < region_length shared_words region →
      IsUnset (segments file) (region_start region + i)
  pub last : 0 < length bytes → IsSet (segments file) (region_start region + (length bytes - 1))
  pub fits : length bytes ≤ region_length shared_words region

-- The layout has the file's entry, and in each region the bytes that the file means.
pub record IsMeant (shared_words : ℕ) (file : List ℕ) (layout : Layout) : Type 0 where
  pub entry : layout.entry ≡ (file_header file).e_entry
  pub code : HasBytes file shared_words Code layout.code
  pub local : HasBytes file shared_words Local layout.local
  pub shared : HasBytes file shared_words Shared layout.shared

-- ---- images

-- a layout, and the number of shared words that it was read for
pub record ImageContents : Type 0 where
  pub layout : Layout
  pub shared_words : ℕ

-- The parts fit their regions, and the entry is an address of code that is divisible by 4.
pub record IsPlaced (layout : Layout) (shared_words : ℕ) : Type 0 where
  pub entry_in_code : in_code layout.entry ≡ true
  pub entry_aligned : layout.entry % 4 ≡ 0
  pub code : length layout.code ≤ 0x10000
  pub local : length layout.local ≤ 0x10000
  pub shared : length layout.shared ≤ 4 * shared_words

-- ---- what reading gives

-- All that the reader had is accepted, and the image is what it means.
abbrev pub IsGiven : (shared_words : ℕ) → (old new : Option (List ℕ)) → ImageContents → Type 0
IsGiven shared_words old new image =
    (file : List ℕ) × ConsumesAll old new file × IsAccepted shared_words file × IsMeant shared_words file image.layout
    × (image.shared_words ≡ shared_words)

-- The error is the first refusal of the input that applies, or a lack of memory.
abbrev pub IsCause : (shared_words : ℕ) → List ℕ → ImageError → Type 0
IsCause shared_words file error.TooLong = ⊥
IsCause shared_words file error.Link = ⊥
IsCause shared_words file error.Memory = Unit {0}
IsCause shared_words file refusal = refusal_of shared_words file ≡ Some refusal

-- Why there is no image, and what was read: the input is too long; or the link failed or memory was short, after a
-- beginning of the input was read; or all that the reader had is refused. Another clause says when the link failed.
abbrev pub IsRefused : (shared_words : ℕ) → (old new : Option (List ℕ)) → ImageError → Type 0
IsRefused shared_words old new error.TooLong = ConsumesPast 1048576 old new
IsRefused shared_words old new error.Link = ConsumesAtMost 1048576 old new
IsRefused shared_words old new error.Memory = ConsumesAtMost 1048576 old new
IsRefused shared_words old new refusal = (file : List ℕ) × ConsumesAll old new file × IsCause shared_words file refusal
