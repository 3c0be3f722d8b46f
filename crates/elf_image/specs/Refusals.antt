-- The refusals of input, in their order.
use Rattle.std.specs.Prelude.{ℕ, ◌+◌, ◌*◌, ◌%◌, Bool, false, not, ◌==◌, ◌&&◌, ◌||◌, nat_eq, nat_lt, nat_le}
use Rattle.std.specs.Prelude.{min, max, List, [], ◌∷◌, map, length, Option, Some, None, if◌then◌else◌}
use Rattle.std.specs.List.{list_any, starts_with}
use Rattle.flat_machine.specs.Memory.{in_code}
use Rattle.elf_image.specs.declared.error.ImageError.{ImageError}
use Rattle.elf_image.specs.declared.error.ImageError.TheVariants.{Truncated, NotExecutable, UnsupportedHeader}
use Rattle.elf_image.specs.declared.error.ImageError.TheVariants.{OutsideInput, OutsideRegions, Overlap, Entry}
use Rattle.elf_image.specs.declared.error.ImageError.TheVariants.{TooLong}
use Rattle.elf_image.specs.declared.header.FileHeader.{FileHeader}
use Rattle.elf_image.specs.declared.segment.ProgramHeader.{ProgramHeader}
use Rattle.elf_image.specs.Headers.{file_header, segments}
use Rattle.elf_image.specs.Regions.{is_in_a_region}

-- whether a file has 7F "ELF", ELFCLASS32, ELFDATA2LSB, EV_CURRENT; ET_EXEC; EM_RISCV
abbrev pub is_executable : List ℕ → FileHeader → Bool
is_executable file header =
    starts_with nat_eq file (0x7F ∷ 0x45 ∷ 0x4C ∷ 0x46 ∷ 1 ∷ 1 ∷ 1 ∷ []) && header.e_type == 2
    && header.e_machine == 243

abbrev pub is_supported : FileHeader → Bool
is_supported header =
    header.e_version == 1
    && header.e_flags == 0
    && header.e_ehsize == 52
    && header.e_phentsize == 32
    && nat_le 1 header.e_phnum
    && nat_le header.e_phnum 16

-- the refusal of the headers, if any
abbrev pub header_refusal : List ℕ → Option ImageError
header_refusal file =
    let header = file_header file in
    if nat_lt (length file) 52 then Some Truncated else
    if not (is_executable file header) then Some NotExecutable else
    if not (is_supported header) then Some UnsupportedHeader else
    if nat_lt (length file) (header.e_phoff + 32 * header.e_phnum) then Some Truncated else
    None

-- whether the segment's p_filesz bytes from p_offset on are in the file, and it has room for them
abbrev pub is_in_file : (file_bytes : ℕ) → ProgramHeader → Bool
is_in_file file_bytes p = nat_le (p.p_offset + p.p_filesz) file_bytes && nat_le p.p_filesz p.p_memsz

-- the refusal of a segment, if any
abbrev pub segment_refusal : (file_bytes shared_words : ℕ) → ProgramHeader → Option ImageError
segment_refusal file_bytes shared_words p =
    if not (is_in_file file_bytes p) then Some OutsideInput else
    if nat_lt 0 p.p_memsz && not (is_in_a_region shared_words p) then Some OutsideRegions else
    None

abbrev pub segment_refusals : (file_bytes shared_words : ℕ) → List ProgramHeader → List (Option ImageError)
segment_refusals file_bytes shared_words ps = map (segment_refusal file_bytes shared_words) ps

-- whether two segments share an address
abbrev pub overlap : ProgramHeader → ProgramHeader → Bool
overlap p q = nat_lt (max p.p_vaddr q.p_vaddr) (min (p.p_vaddr + p.p_memsz) (q.p_vaddr + q.p_memsz))

abbrev pub have_overlap : List ProgramHeader → Bool
have_overlap [] = false
have_overlap (p ∷ ps) = list_any (overlap p) ps || have_overlap ps

-- whether a processor can start at the address
abbrev pub is_entry : ℕ → Bool
is_entry address = in_code address && address % 4 == 0

-- the first refusal of a list, if there is one
abbrev pub first_of : List (Option ImageError) → Option ImageError
first_of [] = None
first_of (None ∷ refusals) = first_of refusals
first_of (Some refusal ∷ refusals) = Some refusal

-- the refusal of a file, for this many shared words: the first of these that applies
unfoldable pub refusal_of : (shared_words : ℕ) → List ℕ → Option ImageError
refusal_of shared_words file =
    first_of (
    (if nat_lt 1048576 (length file) then Some TooLong else None)
    ∷ header_refusal file
    ∷ first_of (segment_refusals (length file) shared_words (segments file))
    ∷ (if have_overlap (segments file) then Some Overlap else None)
    ∷ (if is_entry (file_header file).e_entry then None else Some Entry)
    ∷ [])
