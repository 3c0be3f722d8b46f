-- The headers of an ELF32 file. Each field is little-endian (ELFDATA2LSB), at a fixed offset.
--
-- Source: System V ABI, "ELF Header" (Elf32_Ehdr) and "Program Header" (Elf32_Phdr).
use Rattle.std.specs.Prelude.{ℕ, ◌+◌, ◌*◌, Bool, ◌==◌, List, map, filter}
use Rattle.std.specs.List.{range_with_len}
use Rattle.flat_machine.specs.Memory.{number_at}
use Rattle.elf_image.specs.declared.header.FileHeader.{FileHeader}
use Rattle.elf_image.specs.declared.segment.ProgramHeader.{ProgramHeader}

-- the ELF header, from the first byte of the file on
unfoldable pub file_header : List ℕ → FileHeader
file_header file = record {
  e_type = number_at file 16 2;
  e_machine = number_at file 18 2;
  e_version = number_at file 20 4;
  e_entry = number_at file 24 4;
  e_phoff = number_at file 28 4;
  e_flags = number_at file 36 4;
  e_ehsize = number_at file 40 2;
  e_phentsize = number_at file 42 2;
  e_phnum = number_at file 44 2;
}

-- the program header that begins at this place in the file
unfoldable pub program_header : List ℕ → (place : ℕ) → ProgramHeader
program_header file place = record {
  p_type = number_at file place 4;
  p_offset = number_at file (place + 4) 4;
  p_vaddr = number_at file (place + 8) 4;
  p_filesz = number_at file (place + 16) 4;
  p_memsz = number_at file (place + 20) 4;
  p_flags = number_at file (place + 24) 4;
}

-- the program header table: e_phnum program headers of 32 bytes, from e_phoff on
abbrev pub program_headers : List ℕ → List ProgramHeader
program_headers file =
    let header = file_header file in
    map (λ k. program_header file (header.e_phoff + 32 * k)) (range_with_len 0 header.e_phnum)

-- whether a program header is that of a segment: PT_LOAD
abbrev pub is_load : ProgramHeader → Bool
is_load p = p.p_type == 1

-- the segments, in the order of their program headers
abbrev pub segments : List ℕ → List ProgramHeader
segments file = filter is_load (program_headers file)
