-- Symbols as `nm` prints them, one a line.
--
-- Source: the manual page of GNU nm. A line has the value of a symbol in hex digits, with `-S` its size, a letter for
-- its type, and its name. The value and size of an undefined symbol are blanks.
use Rattle.std.specs.Prelude.{ℕ, ◌^◌, Bool, false, ◌==◌, ◌&&◌, ◌||◌, nat_lt, nat_le, List, [], ◌∷◌, filter_map}
use Rattle.std.specs.Prelude.{length, Option, Some, None, if◌then◌else◌}
use Rattle.std.specs.Char.{is_ascii_alphabetic, is_ascii_hexdigit}
use Rattle.std.specs.List.{list_all}
use Rattle.std.specs.Str.Parse.{digits_value}
use Rattle.symbol_table.specs.Options.{◌>>=◌}
use Rattle.symbol_table.specs.Names.{name_of}
use Rattle.symbol_table.specs.Parts.{parts_at}
use Rattle.symbol_table.specs.Rows.{SymbolRow}

abbrev pub are_hex_digits : List ℕ → Bool
are_hex_digits bytes = list_all is_ascii_hexdigit bytes

-- whether bytes are 1 to 8 or 16 hex digits
unfoldable pub is_hex : List ℕ → Bool
is_hex bytes =
    ((nat_le 1 (length bytes) && nat_le (length bytes) 8) || length bytes == 16) && are_hex_digits bytes

-- the number that is written as 1 to 8 or 16 hex digits, if it is below 2^32
unfoldable pub hex_number : List ℕ → Option ℕ
hex_number digits =
    if is_hex digits && nat_lt (digits_value 16 digits) (2 ^ 32) then Some (digits_value 16 digits) else None

-- whether a text is one letter
abbrev pub is_letter : List ℕ → Bool
is_letter [] = false
is_letter (b ∷ []) = is_ascii_alphabetic b
is_letter (b ∷ c ∷ more) = false

-- the row with these parts, if each of them is right
abbrev pub row_with : (address size : Option ℕ) → (letter name : List ℕ) → Option SymbolRow
row_with address size letter name = do
  text ← name_of name
  start ← address
  count ← size
  if is_letter letter then Some (record { address = start; size = count; name = text }) else None

-- the row of the parts of a line: HEX LETTER NAME, or HEX HEX LETTER NAME, where the second number is the size
abbrev pub row_of_parts : List (List ℕ) → Option SymbolRow
row_of_parts (address ∷ letter ∷ name ∷ []) = row_with (hex_number address) (Some 0) letter name
row_of_parts (address ∷ size ∷ letter ∷ name ∷ []) = row_with (hex_number address) (hex_number size) letter name
row_of_parts parts = None

-- the row of a line, if it has one; single blanks are between its parts
unfoldable pub line_row : List ℕ → Option SymbolRow
line_row line = row_of_parts (parts_at 32 line)

-- the rows of a text, in the order of its lines
abbrev pub text_rows : List ℕ → List SymbolRow
text_rows text = filter_map line_row (parts_at 10 text)
