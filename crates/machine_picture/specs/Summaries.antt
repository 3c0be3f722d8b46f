-- A summary: a grid of all cells, shaded by how many lines they have, and beside it a list of all lines.
use Rattle.std.specs.Prelude.{ℕ, zero, suc, ◌+◌, ◌*◌, ◌/◌, ◌^◌, ◌==◌, min, max, List, [], ◌++◌, codes, length}
use Rattle.std.specs.Prelude.{Option, Some, None, nat_le, if◌then◌else◌}
use Rattle.std.specs.Fmt.{decimal}
use Rattle.std.specs.List.{flat_map}
use Rattle.machine_views.specs.command_io.Digits.{line_feed}
use Rattle.machine_picture.specs.Elements.{attribute, box_text, class_of, label_text, span_text}
use Rattle.machine_views.specs.Cells.{cell_at}
use Rattle.machine_picture.specs.Layouts.{lines_of, total_below}
use Rattle.machine_picture.specs.Pages.{column_name, end_text, is_stage, page_text, texts_below}
use Rattle.machine_views.specs.declared.cell.Cell.{Cell}
use Rattle.machine_views.specs.declared.cell.Line.{Line}
use Rattle.machine_views.specs.declared.cell.Cells.{Cells}
use Rattle.machine_views.specs.declared.view.MachineView.{MachineView}

-- ---- the grid

-- the left side of a column of the grid, and how wide its boxes are
unfoldable pub grid_left : (column : ℕ) → ℕ
grid_left zero = 10
grid_left (suc s) = 270 + 60 * s

unfoldable pub grid_width : (k column : ℕ) → ℕ
grid_width k column = if column == 0 then 240 else if nat_le column k then 52 else 76

-- the upper side of a row: the two rows of a switch are close together
unfoldable pub grid_top : (row : ℕ) → ℕ
grid_top row = 50 + 16 * row + 4 * (row / 2)

-- the class of a box for this many lines: `held0` to `held4`
abbrev pub held_class : (lines : ℕ) → List ℕ
held_class lines = codes "held" ++ decimal (min lines 4)

-- the number of lines, if there are any
abbrev pub count_text : (lines : ℕ) → List ℕ
count_text lines = if lines == 0 then [] else decimal lines

-- what is written in a box: the title of a processor or a module, the number of lines of a switch's output
abbrev pub mark_text : (k column : ℕ) → Cell → List ℕ
mark_text k column cell = if is_stage k column then count_text (length cell.lines) else cell.title

-- a shaded box with what is written in it
unfoldable pub marked_box : (k column row : ℕ) → Cell → List ℕ
marked_box k column row cell =
    box_text (grid_left column) (grid_top row) (grid_width k column) 14 (held_class (length cell.lines))
    ++ label_text (grid_left column + 4) (grid_top row + 11) (codes "mark") (mark_text k column cell)

unfoldable pub grid_cell : (k column row : ℕ) → Option Cell → List ℕ
grid_cell k column row None = []
grid_cell k column row (Some cell) = marked_box k column row cell

unfoldable pub grid_column : Cells → (column : ℕ) → List ℕ
grid_column cells column =
    label_text (grid_left column) 42 (codes "column") (column_name cells.stages column)
    ++ texts_below (λ row. grid_cell cells.stages column row (cell_at cells column row)) (2 ^ cells.stages)

-- ---- the list

-- `stage S wire W: `
unfoldable pub output_text : (stage wire : ℕ) → List ℕ
output_text s w = codes "stage " ++ decimal s ++ codes " wire " ++ decimal w ++ codes ": "

-- `processor P: `, that of an output, or `module M: `
unfoldable pub place_text : (k column row : ℕ) → List ℕ
place_text k zero row = codes "processor " ++ decimal row ++ codes ": "
place_text k (suc s) row =
    if nat_le (suc s) k then output_text s row else codes "module " ++ decimal row ++ codes ": "

-- the left side of the list
abbrev pub list_left : (k : ℕ) → ℕ
list_left k = 370 + 60 * k

-- a line, after its place
abbrev pub listed_line : (k column row : ℕ) → Line → List ℕ
listed_line k column row line =
    span_text (list_left k) 14 (class_of line.kind) (place_text k column row ++ line.text)

unfoldable pub listed_cell : (k column row : ℕ) → Option Cell → List ℕ
listed_cell k column row None = []
listed_cell k column row (Some cell) = flat_map (listed_line k column row) cell.lines

unfoldable pub listed_column : Cells → (column : ℕ) → List ℕ
listed_column cells column =
    texts_below (λ row. listed_cell cells.stages column row (cell_at cells column row)) (2 ^ cells.stages)

unfoldable pub list_text : Cells → List ℕ
list_text cells =
    codes "<text" ++ attribute (codes "y") 48 ++ codes ">" ++ texts_below (listed_column cells) (cells.stages + 2)
    ++ codes "</text>" ++ line_feed

-- ---- the picture

-- the number of lines, of which a cell counts at most 100
abbrev pub lines_below : Cells → (column : ℕ) → ℕ
lines_below cells column = total_below (λ row. min (lines_of (cell_at cells column row)) 100) (2 ^ cells.stages)

unfoldable pub all_lines : Cells → ℕ
all_lines cells = total_below (lines_below cells) (cells.stages + 2)

-- the lower end of the grid and of the list
abbrev pub bottom : Cells → ℕ
bottom cells = max (grid_top (2 ^ cells.stages)) (50 + 14 * all_lines cells)

-- the page has room for 80 letters in the list
unfoldable pub summary : MachineView → Cells → List ℕ
summary v cells =
    page_text v (list_left cells.stages + 570) (bottom cells + 70)
    ++ texts_below (grid_column cells) (cells.stages + 2)
    ++ list_text cells
    ++ end_text (bottom cells)
