-- The names in a picture: those that a table of symbols has for program counters and for shared words.
use Rattle.std.specs.Prelude.{ℕ, ◌+◌, ◌-◌, ◌*◌, ◌^◌, ◌==◌, false, List, [], ◌++◌, Option, Some, None, codes, length}
use Rattle.std.specs.Prelude.{nat_le, nat_lt, take, if◌then◌else◌, option_and_then}
use Rattle.std.specs.Char.{encode_utf8}
use Rattle.std.specs.Fmt.{decimal, digits}
use Rattle.std.specs.List.{flat_map}
use Rattle.command_io.specs.Digits.{hex_of_word}
use Rattle.symbol_table.specs.Rows.{NamedPlace, SymbolRow, place_in}

-- The rows of a table of symbols, and how many letters a name may have.
pub record Naming : Type 0 where
  pub rows : List SymbolRow
  pub letters : ℕ

-- the rows of a table, if there is one; a table without rows names nothing
abbrev pub rows_in : Option (List SymbolRow) → List SymbolRow
rows_in None = []
rows_in (Some rows) = rows

abbrev pub naming : List SymbolRow → (letters : ℕ) → Naming
naming rows letters = record { rows = rows; letters = letters }

-- ---- names in letters

-- `+0xHEX`, and nothing for 0
abbrev pub offset_text : (offset : ℕ) → List ℕ
offset_text offset = if offset == 0 then [] else codes "+0x" ++ digits 16 false offset

-- A label in this many letters: if it has more, its first ones and `..`. Labels are ASCII, where each byte is a letter.
abbrev pub short_label : (letters : ℕ) → (label : List ℕ) → List ℕ
short_label letters label =
    if nat_le (length label) letters then label else flat_map encode_utf8 (take (letters - 2) label) ++ codes ".."

-- The name of a place in this many letters, `LABEL` or `LABEL+0xHEX`: if it has more, the label is cut, not the offset.
unfoldable pub short_name : (letters : ℕ) → NamedPlace → List ℕ
short_name letters p = short_label (letters - length (offset_text p.offset)) p.name ++ offset_text p.offset

-- the name of a place, or this text if there is none
abbrev pub name_or : (letters : ℕ) → (other : List ℕ) → Option NamedPlace → List ℕ
name_or letters other None = other
name_or letters other (Some p) = short_name letters p

-- ---- program counters and words

-- a program counter: its name, or eight hex digits if it has none
abbrev pub pc_text : Naming → (pc : ℕ) → List ℕ
pc_text n pc = name_or n.letters (hex_of_word pc) (place_in n.rows pc)

-- the address of the shared word with this number, if it has one
abbrev pub address_of_word : (number : ℕ) → Option ℕ
address_of_word number = if nat_lt number (2 ^ 29) then Some (0x8000_0000 + 4 * number) else None

-- a shared word: its name, or `word N` if it has none
abbrev pub shared_word_text : Naming → (number : ℕ) → List ℕ
shared_word_text n number =
    name_or n.letters (codes "word " ++ decimal number) (option_and_then (place_in n.rows) (address_of_word number))
