-- The cursor after the lines before, in terms of their meaning.
use Rattle.std.specs.Prelude.{ℕ, List, Bool, false, Option, Some, None, if◌then◌else◌}
use Rattle.std.specs.BTreeMap.{get_by, BTreeMap}
use Rattle.std.specs.Borrow.{Bor}
use Rattle.std.specs.Cmp.Lexicographic.{slice_cmp}
use Rattle.std.specs.Ordering.{nat_cmp}
use Rattle.std.specs.Option.{option_map, option_or}
use Rattle.std.specs.Str.{bytes_eq}
use Rattle.assembler.specs.declared.symbol.Symbol.{Symbol}
use Rattle.assembler.specs.Meaning.{Labels, Place}
use Rattle.line_faults.specs.declared.labels.Label.{Label}
use Rattle.line_faults.specs.declared.cursor.Cursor.{Cursor}

abbrev pub symbol_of : Label → Symbol
symbol_of l = record { section = l.section; address = l.address }

-- the labels of a map, as a function
abbrev pub label_values : BTreeMap (Bor (List ℕ)) Label → Labels
label_values m = λ name. option_map symbol_of (get_by (λ (k : Bor (List ℕ)). slice_cmp nat_cmp name k.now) m)

abbrev pub place_of : Cursor → Place
place_of c = record {
  section = c.section;
  code = c.code;
  local = c.local;
  shared = c.shared;
  labels = label_values c.labels;
}

-- ---- the first lines of labels

-- the first line that has a label, counted from 1
abbrev pub FirstLines : Type 0
FirstLines = (name : List ℕ) → Option ℕ

-- the first lines of the labels of a map
abbrev pub first_lines_in : BTreeMap (Bor (List ℕ)) Label → FirstLines
first_lines_in m =
    λ name. option_map (λ (l : Label). l.line) (get_by (λ (k : Bor (List ℕ)). slice_cmp nat_cmp name k.now) m)

-- the first lines of the labels so far
abbrev pub first_lines : Cursor → FirstLines
first_lines c = first_lines_in c.labels

-- whether a line's label, if it has one, has this name
abbrev pub has_name : (label : Option (List ℕ)) → (name : List ℕ) → Bool
has_name None name = false
has_name (Some label) name = bytes_eq label name

-- the first lines after a line with this label and number: a label that a line before has keeps its line
abbrev pub lines_after : FirstLines → (label : Option (List ℕ)) → (number : ℕ) → FirstLines
lines_after firsts label number = λ name. option_or (firsts name) (if has_name label name then Some number else None)
