-- What is printed for a line in each format.
use Rattle.std.specs.Prelude.{ℕ, List, [], ◌∷◌, ◌++◌, Option}
use Rattle.line_formats.specs.Csv.{csv_text}
use Rattle.line_formats.specs.Names.{named_line}
use Rattle.line_formats.specs.Places.{NamedPlace, place_in}
use Rattle.line_shapes.specs.Shapes.{object_text}
use Rattle.line_formats.specs.declared.format.Format.{Format}
use Rattle.line_formats.specs.declared.format.Format.TheVariants as format
use Rattle.line_formats.specs.declared.names.Names.{Names}

-- with a line feed after it
abbrev pub with_line_feed : List ℕ → List ℕ
with_line_feed text = text ++ 10 ∷ []

-- a line with names from a table, if there is a table
abbrev pub named_text : {T : Type 0} → (T → ℕ → Option NamedPlace) → Names T → (line : List ℕ) → List ℕ
named_text place names line =
    with_line_feed (named_line (place_in place names.places) names.disassembly names.decimal names.shapes.now line)

-- what is printed for a line
abbrev pub format_text : {T : Type 0} → (T → ℕ → Option NamedPlace) → Format T → (line : List ℕ) → List ℕ
format_text place format.Plain line = with_line_feed line
format_text place (format.Json shapes) line = with_line_feed (object_text shapes.now line)
format_text place (format.Csv shapes) line = csv_text shapes.now line
format_text place (format.Named names) line = named_text place names line
