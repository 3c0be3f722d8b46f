-- Where the cells are in a whole picture, in the picture's units. A column is as wide as its longest text,
-- and a row as high as its cell with the most lines.
use Rattle.std.specs.Prelude.{ℕ, zero, suc, ◌+◌, ◌*◌, ◌/◌, ◌^◌, min, max, List, length, Option, Some, None}
use Rattle.std.specs.List.{fold}
use Rattle.machine_views.specs.Cells.{cell_at}
use Rattle.machine_views.specs.declared.cell.Cell.{Cell}
use Rattle.machine_views.specs.declared.cell.Kind.{Kind}
use Rattle.machine_views.specs.declared.cell.Kind.TheVariants as kind
use Rattle.machine_views.specs.declared.cell.Line.{Line}
use Rattle.machine_views.specs.declared.cell.Cells.{Cells}

-- ---- sums and maxima

-- the sum of the sizes below a count
abbrev pub total_below : (size_at : ℕ → ℕ) → (count : ℕ) → ℕ
total_below size_at zero = 0
total_below size_at (suc n) = total_below size_at n + size_at n

-- the greatest of the sizes below a count
abbrev pub greatest_below : (size_at : ℕ → ℕ) → (count : ℕ) → ℕ
greatest_below size_at zero = 0
greatest_below size_at (suc n) = max (greatest_below size_at n) (size_at n)

-- ---- cells

-- the letters of the longest text of a cell
abbrev pub letters_in : Cell → ℕ
letters_in cell = fold (λ most (line : Line). max most (length line.text)) (length cell.title) cell.lines

unfoldable pub letters_of : Option Cell → ℕ
letters_of None = 0
letters_of (Some cell) = letters_in cell

unfoldable pub lines_of : Option Cell → ℕ
lines_of None = 0
lines_of (Some cell) = length cell.lines

-- ---- columns

-- how wide the longest text of a column is, with 7 units for each of at most 100 letters
unfoldable pub text_width : Cells → (column : ℕ) → ℕ
text_width cells column =
    7 * min (max (greatest_below (λ row. letters_of (cell_at cells column row)) (2 ^ cells.stages)) 10) 100

-- how wide the boxes of a column are
abbrev pub width_of : Cells → (column : ℕ) → ℕ
width_of cells column = text_width cells column + 12

-- the left side of the boxes of a column
unfoldable pub left_of : Cells → (column : ℕ) → ℕ
left_of cells column = 10 + total_below (λ i. width_of cells i + 50) column

-- ---- rows

-- how high a row is, with 14 units for its title and for each of at most 100 lines
unfoldable pub height_of : Cells → (row : ℕ) → ℕ
height_of cells row =
    14 * min (greatest_below (λ column. lines_of (cell_at cells column row)) (cells.stages + 2)) 100 + 26

-- the upper side of a row
unfoldable pub top_of : Cells → (row : ℕ) → ℕ
top_of cells row = 50 + total_below (height_of cells) row

-- the middle of a row
abbrev pub middle_of : Cells → (row : ℕ) → ℕ
middle_of cells row = top_of cells row + height_of cells row / 2

-- ---- texts

-- where a line of a box begins, ends or has its middle, if its longest text is this wide
unfoldable pub x_of : Kind → (left text_width : ℕ) → ℕ
x_of kind.Request left w = left + 6 + w
x_of kind.Record left w = left + 6 + w / 2
x_of kind.Reply left w = left + 6
x_of kind.Word left w = left + 6
