-- The rows of a study as lines.
use Rattle.std.specs.Prelude.{ℕ, ◌-◌, List, [], ◌++◌, Option, None, Some, codes, flat_map, length, replicate}
use Rattle.run_counts.specs.Lines.{line_feed}
use Rattle.study_rows.specs.Columns.{cell_text, name_of, other_columns, width_of}
use Rattle.study_rows.specs.declared.cells.Layout.{Layout}
use Rattle.study_rows.specs.declared.cells.Layout.TheVariants as layout
use Rattle.study_rows.specs.declared.column.Column.{Column}
use Rattle.study_rows.specs.declared.column.Column.TheVariants as column
use Rattle.study_rows.specs.declared.row.Row.{Row}

-- the text with blanks (32) before it, if it is shorter than this
abbrev pub padded : (width : ℕ) → List ℕ → List ℕ
padded width text = replicate (width - length text) 32 ++ text

-- what separates a cell from the one before it
abbrev pub separator : Layout → List ℕ
separator layout.Table = codes " "
separator layout.Csv = codes ","
separator layout.Lines = codes " "

-- the text of a row in a column, or without a row the column's name
abbrev pub cell : Option Row → Column → List ℕ
cell None c = name_of c
cell (Some row) c = cell_text row c

-- the text of a cell as a layout shows it
abbrev pub shown : Layout → Column → List ℕ → List ℕ
shown layout.Table c text = padded (width_of c) text
shown layout.Csv c text = text
shown layout.Lines c text = name_of c ++ codes " " ++ text

-- a separator and a cell
abbrev pub next_cell : Layout → Option Row → Column → List ℕ
next_cell l row c = separator l ++ shown l c (cell row c)

abbrev pub next_cells : Layout → Option Row → List Column → List ℕ
next_cells l row columns = flat_map (next_cell l row) columns

-- the line of a row, or without a row the heading
unfoldable pub line_text : Layout → Option Row → List ℕ
line_text l row = shown l column.K (cell row column.K) ++ next_cells l row other_columns ++ line_feed

-- the heading, if the layout has one
abbrev pub heading_text : Layout → List ℕ
heading_text layout.Table = line_text layout.Table None
heading_text layout.Csv = line_text layout.Csv None
heading_text layout.Lines = []

abbrev pub row_lines : Layout → List Row → List ℕ
row_lines l rows = flat_map (λ row. line_text l (Some row)) rows

-- the rows as lines, below their heading if the layout has one
abbrev pub rows_text : Layout → List Row → List ℕ
rows_text l rows = heading_text l ++ row_lines l rows
