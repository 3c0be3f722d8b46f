-- A whole picture: each cell is in a box with its title and its lines, and the wires are drawn.
use Rattle.std.specs.Prelude.{ℕ, suc, ◌+◌, ◌-◌, ◌%◌, ◌^◌, ◌==◌, max, List, [], ◌++◌, codes, Option, Some, None}
use Rattle.std.specs.Prelude.{nat_le, if◌then◌else◌}
use Rattle.std.specs.List.{flat_map}
use Rattle.machine_views.specs.command_io.Digits.{line_feed}
use Rattle.omega_wires.specs.Wires.{rotated_right}
use Rattle.machine_picture.specs.Elements.{attribute, box_text, class_of, class_text, label_text, span_text, wire_text}
use Rattle.machine_views.specs.Cells.{cell_at}
use Rattle.machine_picture.specs.Layouts.{height_of, left_of, middle_of, text_width, top_of, width_of, x_of}
use Rattle.machine_picture.specs.Pages.{column_name, end_text, is_stage, page_text, texts_below}
use Rattle.machine_views.specs.declared.cell.Cell.{Cell}
use Rattle.machine_views.specs.declared.cell.Line.{Line}
use Rattle.machine_views.specs.declared.cell.Cells.{Cells}
use Rattle.machine_views.specs.declared.view.MachineView.{MachineView}

-- ---- wires

-- the row from which a wire comes into a row of this column: the wires are shuffled before each stage
abbrev pub row_before : (k column row : ℕ) → ℕ
row_before k column row = if nat_le column k then rotated_right k row else row

-- the wire into a row of the column after this one
unfoldable pub wire_into : Cells → (before row : ℕ) → List ℕ
wire_into cells before row =
    wire_text (left_of cells before + width_of cells before)
    (middle_of cells (row_before cells.stages (suc before) row)) (left_of cells (suc before)) (middle_of cells row)

-- the wires into the column after this one
abbrev pub wires_into : Cells → (before : ℕ) → List ℕ
wires_into cells before = texts_below (wire_into cells before) (2 ^ cells.stages)

-- ---- boxes

-- the box of this height that begins at a row
unfoldable pub box_of : Cells → (column row height : ℕ) → List ℕ
box_of cells column row height =
    box_text (left_of cells column) (top_of cells row) (width_of cells column) height (codes "box")

-- the box of a switch, if it begins at this row: a switch has two rows
unfoldable pub switch_box : Cells → (column row : ℕ) → List ℕ
switch_box cells column row =
    if row % 2 == 0 then box_of cells column row (height_of cells row + height_of cells (row + 1) - 4) else []

-- the box that begins at a row, if one does
unfoldable pub box_at : Cells → (column row : ℕ) → List ℕ
box_at cells column row =
    if is_stage cells.stages column then switch_box cells column row
    else box_of cells column row (height_of cells row - 4)

-- ---- cells

abbrev pub line_text : (left width : ℕ) → Line → List ℕ
line_text left width line = span_text (x_of line.kind left width) 14 (class_of line.kind) line.text

-- the beginning of a text of several lines
unfoldable pub lines_start : (y : ℕ) → List ℕ
lines_start y = codes "<text" ++ attribute (codes "y") y ++ class_text (codes "cell") ++ codes ">"

-- the title of a cell and its lines
unfoldable pub shown_text : (left width top : ℕ) → Cell → List ℕ
shown_text left width top cell =
    lines_start (top + 14) ++ span_text (left + 6) 0 (codes "title") cell.title
    ++ flat_map (line_text left width) cell.lines ++ codes "</text>" ++ line_feed

unfoldable pub cell_text : (left width top : ℕ) → Option Cell → List ℕ
cell_text left width top None = []
cell_text left width top (Some cell) = shown_text left width top cell

-- a box, if one begins at this row, and the cell
abbrev pub row_text : Cells → (column row : ℕ) → List ℕ
row_text cells column row =
    box_at cells column row
    ++ cell_text (left_of cells column) (text_width cells column) (top_of cells row) (cell_at cells column row)

-- ---- the picture

-- a column with its name
unfoldable pub column_text : Cells → (column : ℕ) → List ℕ
column_text cells column =
    label_text (left_of cells column) 42 (codes "column") (column_name cells.stages column)
    ++ texts_below (row_text cells column) (2 ^ cells.stages)

-- how wide and high the page is
abbrev pub page_width : Cells → ℕ
page_width cells = max (left_of cells (cells.stages + 2) - 40) 660

abbrev pub bottom : Cells → ℕ
bottom cells = top_of cells (2 ^ cells.stages)

unfoldable pub whole_picture : MachineView → Cells → List ℕ
whole_picture v cells =
    page_text v (page_width cells) (bottom cells + 70)
    ++ texts_below (wires_into cells) (cells.stages + 1)
    ++ texts_below (column_text cells) (cells.stages + 2)
    ++ end_text (bottom cells)
