-- The symbol table of an ELF32 file. Each field is little-endian (ELFDATA2LSB), at a fixed offset.
--
-- Source: System V ABI, "ELF Header" (Elf32_Ehdr), "Sections" (Elf32_Shdr), "String Table" and "Symbol Table"
-- (Elf32_Sym).
use Rattle.std.specs.Prelude.{ℕ, ◌+◌, ◌*◌, ◌/◌, ◌%◌, Bool, ◌==◌, ◌&&◌, nat_eq, nat_lt, nat_le, List, [], ◌∷◌, map}
use Rattle.std.specs.Prelude.{drop, filter_map, find, length, position, slice_get, slice_index, take}
use Rattle.std.specs.Prelude.{Option, Some, None, if◌then◌else◌}
use Rattle.std.specs.List.{range_with_len, starts_with}
use Rattle.std.specs.Option.{option_map, option_map_or}
use Rattle.symbol_table.specs.declared.elf.ElfHeader.{ElfHeader}
use Rattle.symbol_table.specs.declared.elf.SectionHeader.{SectionHeader}
use Rattle.symbol_table.specs.declared.elf.SymbolEntry.{SymbolEntry}
use Rattle.symbol_table.specs.Options.{◌>>=◌}
use Rattle.symbol_table.specs.Names.{name_of}
use Rattle.symbol_table.specs.Parts.{number_at, part_of, whole_count}
use Rattle.symbol_table.specs.Rows.{SymbolRow}

-- whether a file begins with 7F "ELF", ELFCLASS32, ELFDATA2LSB
abbrev pub is_elf : List ℕ → Bool
is_elf file = starts_with nat_eq file (0x7F ∷ 0x45 ∷ 0x4C ∷ 0x46 ∷ 1 ∷ 1 ∷ [])

-- ---- sections

-- the ELF header, from the first byte of the file on
unfoldable pub elf_header : List ℕ → ElfHeader
elf_header file = record {
  e_shoff = number_at file 32 4;
  e_shentsize = number_at file 46 2;
  e_shnum = number_at file 48 2;
}

-- the ELF header of a file that has all of it, and section headers of 40 bytes
abbrev pub header_of : List ℕ → Option ElfHeader
header_of file =
    if nat_lt (length file) 52 then None else
    if (elf_header file).e_shentsize == 40 then Some (elf_header file) else None

-- the section header that begins at this place in the file
unfoldable pub section_header : List ℕ → (place : ℕ) → SectionHeader
section_header file place = record {
  sh_type = number_at file (place + 4) 4;
  sh_offset = number_at file (place + 16) 4;
  sh_size = number_at file (place + 20) 4;
  sh_link = number_at file (place + 24) 4;
  sh_entsize = number_at file (place + 36) 4;
}

-- how many of the e_shnum section headers from e_shoff on are in the file
abbrev pub section_count : ElfHeader → List ℕ → ℕ
section_count header file = whole_count file header.e_shoff 40 header.e_shnum

-- the section headers that are in the file
abbrev pub section_headers : ElfHeader → List ℕ → List SectionHeader
section_headers header file =
    map (λ k. section_header file (header.e_shoff + 40 * k)) (range_with_len 0 (section_count header file))

-- whether a section is a symbol table: SHT_SYMTAB
abbrev pub is_symbol_table : SectionHeader → Bool
is_symbol_table section = section.sh_type == 2

-- the header of the first symbol table, if its entries have 16 bytes, and what the file has of the bytes of the string
-- table that sh_link names
unfoldable pub tables_of : List ℕ → Option (SectionHeader × List ℕ)
tables_of file = do
  header ← header_of file
  table ← find is_symbol_table (section_headers header file)
  strings ← slice_get (section_headers header file) table.sh_link
  if table.sh_entsize == 16 then Some (table, part_of file strings.sh_offset strings.sh_size) else None

-- ---- symbols

-- the entry of a symbol table that begins at this place in the file
unfoldable pub symbol_entry : List ℕ → (place : ℕ) → SymbolEntry
symbol_entry file place = record {
  st_name = number_at file place 4;
  st_value = number_at file (place + 4) 4;
  st_size = number_at file (place + 8) 4;
  st_info = slice_index file (place + 12);
  st_shndx = number_at file (place + 14) 2;
}

-- the entries of a symbol table that are in the file
abbrev pub symbol_entries : List ℕ → SectionHeader → List SymbolEntry
symbol_entries file table =
    map (λ k. symbol_entry file (table.sh_offset + 16 * k))
    (range_with_len 0 (whole_count file table.sh_offset 16 (table.sh_size / 16)))

-- whether an entry is of a symbol of type STT_NOTYPE, STT_OBJECT or STT_FUNC that is defined in a section: its index is
-- neither SHN_UNDEF nor one from SHN_LORESERVE on
abbrev pub is_listed : SymbolEntry → Bool
is_listed entry = nat_le (entry.st_info % 16) 2 && nat_lt 0 entry.st_shndx && nat_lt entry.st_shndx 0xFF00

-- the string that begins at this place of a string table, up to the next zero byte, if there is one after at most 1,024
-- bytes
abbrev pub string_at : (strings : List ℕ) → (place : ℕ) → Option (List ℕ)
string_at strings place =
    option_map (λ end. take end (part_of strings place 1025)) (position (λ b. b == 0) (part_of strings place 1025))

-- the row of an entry with a name among these strings
unfoldable pub entry_row : (strings : List ℕ) → SymbolEntry → Option SymbolRow
entry_row strings entry =
    if is_listed entry
    then option_map (λ name. record { address = entry.st_value; size = entry.st_size; name = name })
    (string_at strings entry.st_name >>= name_of)
    else None

-- the rows of an ELF file, in the order of its symbol table
abbrev pub elf_rows : List ℕ → List SymbolRow
elf_rows file =
    option_map_or (λ tables. filter_map (entry_row tables.1) (symbol_entries file tables.0)) (tables_of file) []
