-- The names that count.
use Rattle.std.specs.Prelude.{ℕ, Bool, ◌==◌, ◌&&◌, ◌||◌, not, nat_eq, List, length, codes, Option, Some, None}
use Rattle.std.specs.Prelude.{if◌then◌else◌}
use Rattle.std.specs.Char.{is_ascii_graphic}
use Rattle.std.specs.List.{list_all, starts_with}

-- whether each byte is printable ASCII, and not a blank
abbrev pub is_printable : List ℕ → Bool
is_printable bytes = list_all is_ascii_graphic bytes

-- whether a name is one that the assembler made: a mapping symbol, as $x, or a local label, as .L3
abbrev pub is_internal : List ℕ → Bool
is_internal name = starts_with nat_eq name (codes "$") || starts_with nat_eq name (codes ".L")

-- whether bytes are the name of a symbol that counts
unfoldable pub is_name : List ℕ → Bool
is_name bytes = not (length bytes == 0) && is_printable bytes && not (is_internal bytes)

-- bytes as a name, if they are one
abbrev pub name_of : List ℕ → Option (List ℕ)
name_of bytes = if is_name bytes then Some bytes else None
