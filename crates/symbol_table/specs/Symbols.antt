-- The symbols of a file.
use Rattle.std.specs.Prelude.{ℕ, List, if◌then◌else◌}
use Rattle.symbol_table.specs.Elf.{is_elf, elf_rows}
use Rattle.symbol_table.specs.Rows.{SymbolRow, by_address}
use Rattle.symbol_table.specs.Text.{text_rows}

-- the rows of a file, in its order: those of an ELF file, or else of a text
abbrev pub rows_of : List ℕ → List SymbolRow
rows_of bytes = if is_elf bytes then elf_rows bytes else text_rows bytes

-- the symbols of a file, by address; those at one address are in the order of the file
unfoldable pub symbols_of : List ℕ → List SymbolRow
symbols_of bytes = by_address (rows_of bytes)
