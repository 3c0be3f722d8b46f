-- What the code keeps between its two passes, in the terms of the meaning of texts.
use Rattle.std.specs.Prelude.{ℕ, ℤ, pos, List, map, Option, Result}
use Rattle.std.specs.BTreeMap.{get_by, BTreeMap}
use Rattle.std.specs.Borrow.{Bor}
use Rattle.std.specs.Cmp.Lexicographic.{slice_cmp}
use Rattle.std.specs.Ordering.{nat_cmp}
use Rattle.std.specs.Option.{option_map}
use Rattle.asm_lines.specs.Statements.{Stmt, line_of}
use Rattle.assembler.specs.declared.fault.AsmFault.{AsmFault}
use Rattle.assembler.specs.declared.symbol.Symbol.{Symbol}
use Rattle.assembler.specs.declared.values.Part.{Part}
use Rattle.assembler.specs.declared.values.Part.TheVariants as parts
use Rattle.assembler.specs.declared.cursor.LineAt.{LineAt}
use Rattle.assembler.specs.declared.cursor.Cursor.{Cursor}
use Rattle.assembler.specs.Faults.{◌>>=◌, lifted}
use Rattle.assembler.specs.Meaning.{Labels, Place, Piece, high_part, low_part, offset_from, piece_of}

-- the labels of a map, as a function
abbrev pub label_values : BTreeMap (Bor (List ℕ)) Symbol → Labels
label_values m = λ name. get_by (λ (k : Bor (List ℕ)). slice_cmp nat_cmp name k.now) m

abbrev pub place_of : Cursor → Place
place_of c = record {
  section = c.section;
  code = c.code;
  local = c.local;
  shared = c.shared;
  labels = label_values c.labels;
}

abbrev pub nows : List (Bor (List ℕ)) → List (List ℕ)
nows parts = map (λ (part : Bor (List ℕ)). part.now) parts

abbrev pub name_of : Option (Bor (List ℕ)) → Option (List ℕ)
name_of name = option_map (λ (n : Bor (List ℕ)). n.now) name

-- the part of a label's value that an immediate takes
abbrev pub taken : Part → ℕ → ℤ
taken parts.Whole v = pos v
taken parts.High v = high_part v
taken parts.Low v = low_part v
taken (parts.Offset at) v = offset_from at v

-- what a line's statement places at the line's place
unfoldable pub statement_piece : Labels → LineAt → Option Stmt → Result Piece AsmFault
statement_piece labels p statement =
    piece_of labels (record { section = p.section; address = p.address; statement = statement })

-- what a line places at its place
unfoldable pub piece_at : Labels → LineAt → Result Piece AsmFault
piece_at labels p = lifted (line_of p.line.now) >>= λ said. statement_piece labels p said.statement
