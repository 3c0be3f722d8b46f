-- Where a plot shows the number of a row, and how its axis of numbers is divided.
use Rattle.std.specs.Prelude.{ℕ, ◌+◌, ◌-◌, ◌*◌, ◌/◌, ◌==◌, ◌&&◌, min, max, Bool, List, [], ◌∷◌, Option, Some, None}
use Rattle.std.specs.Prelude.{count_by, fold, nat_le, unwrap_or, if◌then◌else◌}
use Rattle.study_rows.specs.Columns.{value_of}
use Rattle.study_rows.specs.declared.column.Column.{Column}
use Rattle.study_rows.specs.declared.row.Row.{Row}

-- the number of a row that a plot shows: a number past 10^15 is drawn there
abbrev pub shown_number : Column → Row → ℕ
shown_number c row = min (value_of row c) 1000000000000000

-- the greatest of them
unfoldable pub greatest_of : Column → List Row → ℕ
greatest_of c rows = fold (λ n row. max n (shown_number c row)) 0 rows

-- ---- the axis of numbers

-- the powers of 10 below 10^15
abbrev pub powers : List ℕ
powers =
    1 ∷ 10 ∷ 100 ∷ 1000 ∷ 10000 ∷ 100000 ∷ 1000000 ∷ 10000000 ∷ 100000000 ∷ 1000000000 ∷ 10000000000 ∷ 100000000000
    ∷ 1000000000000 ∷ 10000000000000 ∷ 100000000000000 ∷ []

-- the least of 1, 2 and 5 times this power that reaches the number in four steps, if one does
abbrev pub step_at : (power number : ℕ) → Option ℕ
step_at power number =
    if nat_le number (4 * power) then Some power else
    if nat_le number (8 * power) then Some (2 * power) else
    if nat_le number (20 * power) then Some (5 * power) else None

-- the same, of the first of these powers with which one does
unfoldable pub step_in : List ℕ → (number : ℕ) → ℕ
step_in [] number = 1000000000000000
step_in (power ∷ others) number = unwrap_or (step_at power number) (step_in others number)

-- the step of the axis, which has 0 to 4 times this step: the least of 1, 2, 5, 10, 20 .. that so reaches the number
abbrev pub step_of : (number : ℕ) → ℕ
step_of number = step_in powers number

-- ---- places

-- how far to the right a machine with this number of stages is
abbrev pub x_of : (k : ℕ) → ℕ
x_of k = 160 + 90 * k

-- how far down a number is: 100 above the last for each step
abbrev pub y_of : (step number : ℕ) → ℕ
y_of step number = 460 - (number * 100) / max step 1

-- ---- the lines of a plot

-- whether two rows are of one line: of machines with the same b and r
abbrev pub are_alike : Row → Row → Bool
are_alike head row = (row.size.b == head.size.b) && (row.size.r == head.size.r)

-- the number of stages in the first row
abbrev pub first_stages : List Row → ℕ
first_stages [] = 0
first_stages (row ∷ rows) = row.size.k

-- how many lines there are: as many as rows with the first row's number of stages, at most 51
abbrev pub lines_in : List Row → ℕ
lines_in rows = min (count_by (λ row. row.size.k == first_stages rows) rows) 51
