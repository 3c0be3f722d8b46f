-- The plot of a column: its numbers by processors, a line for each b and r.
use Rattle.std.specs.Prelude.{ℕ, ◌+◌, ◌*◌, ◌/◌, ◌%◌, max, List, [], ◌++◌, Option, Some, None, flat_map, slice_get}
use Rattle.std.specs.Prelude.{if◌then◌else◌}
use Rattle.run_counts.specs.Lines.{first_lines}
use Rattle.study_rows.specs.Canvas as canvas
use Rattle.study_rows.specs.Columns.{content_of, end_text}
use Rattle.study_rows.specs.Scales.{are_alike, greatest_of, lines_in, shown_number, step_of, x_of, y_of}
use Rattle.study_rows.specs.declared.column.Column.{Column}
use Rattle.study_rows.specs.declared.row.Row.{Row}

-- ---- a line

-- the point of a row, if it is of the line of another
abbrev pub point_of : Column → (step : ℕ) → (head row : Row) → List ℕ
point_of c step head row =
    if are_alike head row then canvas.point_text (x_of row.size.k) (y_of step (shown_number c row)) else []

-- the mark there, which shows how the run ended
abbrev pub mark_of : Column → (step colour : ℕ) → (head row : Row) → List ℕ
mark_of c step colour head row =
    if are_alike head row
    then canvas.mark_text colour (end_text row.end) (x_of row.size.k) (y_of step (shown_number c row)) else []

abbrev pub points_of : Column → (step : ℕ) → Row → List Row → List ℕ
points_of c step head rows = flat_map (point_of c step head) rows

abbrev pub marks_of : Column → (step colour : ℕ) → Row → List Row → List ℕ
marks_of c step colour head rows = flat_map (mark_of c step colour head) rows

-- the line through the points, in a colour and with dashes
unfoldable pub curve_text : Column → (step colour dashes : ℕ) → Row → List Row → List ℕ
curve_text c step colour dashes head rows =
    canvas.line_start colour dashes ++ points_of c step head rows ++ canvas.line_end
    ++ marks_of c step colour head rows

-- its line in the legend
unfoldable pub legend_text : (colour dashes y b r : ℕ) → List ℕ
legend_text colour dashes y b r = canvas.key_text colour dashes y ++ canvas.sizes_text (y + 8) b r

-- the line with this number, which goes through the point of this row
abbrev pub series_of : Column → (step number : ℕ) → Row → List Row → List ℕ
series_of c step i head rows =
    curve_text c step (i % 8) (i / 8) head rows ++ legend_text (i % 8) (i / 8) (76 + 36 * i) head.size.b head.size.r

abbrev pub series_if : Column → (step number : ℕ) → Option Row → List Row → List ℕ
series_if c step i None rows = []
series_if c step i (Some head) rows = series_of c step i head rows

-- the line with this number, which goes through the point of the row with this number
abbrev pub series_at : Column → (step : ℕ) → List Row → (number : ℕ) → List ℕ
series_at c step rows i = series_if c step i (slice_get rows i) rows

-- ---- the plot

-- how high the page is: it has room for the plot, and for the legend
abbrev pub height_of : List Row → ℕ
height_of rows = max (100 + 36 * lines_in rows) 560

-- the page and its heading
unfoldable pub page_text : Column → (height : ℕ) → List ℕ
page_text c height = canvas.svg_text height ++ canvas.style ++ canvas.paper height ++ canvas.heading c

-- the axes with their numbers
unfoldable pub axes_text : Column → (step : ℕ) → List ℕ
axes_text c step =
    first_lines (canvas.tick_text (content_of c) step) 5 ++ first_lines canvas.processors_of 7 ++ canvas.axes
    ++ canvas.captions

-- the plot of a column, with axes of this step
unfoldable pub plot_with : Column → (step : ℕ) → List Row → List ℕ
plot_with c step rows =
    page_text c (height_of rows) ++ axes_text c step ++ first_lines (series_at c step rows) (lines_in rows)
    ++ canvas.closing

-- the plot of a column
abbrev pub plot_text : Column → List Row → List ℕ
plot_text c rows = plot_with c (step_of (greatest_of c rows)) rows
