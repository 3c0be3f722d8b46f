-- The one spelling of a layout.
--
-- Source: System V ABI, "ELF Header" (Elf32_Ehdr) and "Program Header" (Elf32_Phdr): their fields in order.
use Rattle.std.specs.Prelude.{ℕ, ◌+◌, ◌*◌, ◌≤◌, Bool, ◌==◌, List, [], ◌∷◌, ◌++◌, length, replicate, if◌then◌else◌}
use Rattle.std.specs.Int.{w16, w32, to_le_bytes}
use Rattle.std.specs.List.{flat_map}
use Rattle.elf_image.specs.declared.layout.Layout.{Layout}
use Rattle.elf_image.specs.declared.region.Region.{Region}
use Rattle.elf_image.specs.declared.region.Region.TheVariants.{Code, Local, Shared}
use Rattle.elf_image.specs.Regions.{region_start}

-- numbers of two bytes, and of four, as bytes
abbrev pub halves : List ℕ → List ℕ
halves numbers = flat_map (to_le_bytes w16) numbers

abbrev pub words : List ℕ → List ℕ
words numbers = flat_map (to_le_bytes w32) numbers

-- the ELF header: e_ident; e_type, e_machine; e_version, e_entry, e_phoff, e_shoff, e_flags; e_ehsize, e_phentsize,
-- e_phnum, e_shentsize, e_shnum, e_shstrndx
unfoldable pub file_header_bytes : (entry count : ℕ) → List ℕ
file_header_bytes entry count =
    (0x7F ∷ 0x45 ∷ 0x4C ∷ 0x46 ∷ 1 ∷ 1 ∷ 1 ∷ [])
    ++ replicate 9 0
    ++ halves (2 ∷ 243 ∷ [])
    ++ words (1 ∷ entry ∷ 52 ∷ 0 ∷ 0 ∷ [])
    ++ halves (52 ∷ 32 ∷ count ∷ 0 ∷ 0 ∷ 0 ∷ [])

-- a program header: p_type, p_offset, p_vaddr, p_paddr, p_filesz, p_memsz, p_flags, p_align
unfoldable pub program_header_bytes : (offset start count flags : ℕ) → List ℕ
program_header_bytes offset start count flags = words (1 ∷ offset ∷ start ∷ start ∷ count ∷ count ∷ flags ∷ 1 ∷ [])

abbrev pub is_nil : List ℕ → Bool
is_nil bytes = length bytes == 0

-- the number of program headers: one for code, and one for each other region that has bytes
abbrev pub count_of : Layout → ℕ
count_of layout = 1 + (if is_nil layout.local then 0 else 1) + (if is_nil layout.shared then 0 else 1)

-- where each region's bytes begin in the file
abbrev pub code_offset : Layout → ℕ
code_offset layout = 52 + 32 * count_of layout

abbrev pub local_offset : Layout → ℕ
local_offset layout = code_offset layout + length layout.code

abbrev pub shared_offset : Layout → ℕ
shared_offset layout = local_offset layout + length layout.local

-- the flags of a region's segment: code is read and executed, the others are read and written
abbrev pub written_flags : Region → ℕ
written_flags Code = 5
written_flags Local = 6
written_flags Shared = 6

-- the headers of a layout
abbrev pub head_bytes : Layout → List ℕ
head_bytes layout =
    file_header_bytes layout.entry (count_of layout)
    ++ program_header_bytes (code_offset layout) (region_start Code) (length layout.code) (written_flags Code)
    ++ (if is_nil layout.local then []
    else program_header_bytes (local_offset layout) (region_start Local) (length layout.local) (written_flags Local))
    ++ (if is_nil layout.shared then []
    else program_header_bytes (shared_offset layout) (region_start Shared) (length layout.shared)
    (written_flags Shared))

-- the headers, followed by the bytes of each region
unfoldable pub spelling : Layout → List ℕ
spelling layout = head_bytes layout ++ layout.code ++ layout.local ++ layout.shared

-- Each part fits its region in the largest machine.
pub record FitsRegions (layout : Layout) : Type 0 where
  pub code : length layout.code ≤ 0x10000
  pub local : length layout.local ≤ 0x10000
  pub shared : length layout.shared ≤ 0x100000
