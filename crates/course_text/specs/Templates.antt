-- Templates: plain lines with marks for the words of a course line.
use Rattle.std.specs.Prelude.{ℕ, ◌+◌, ◌-◌, ◌&&◌, nat_le, List, [], ◌∷◌, ◌++◌, drop, slice_index_or, if◌then◌else◌}
use Rattle.std.specs.List.{flat_map}
use Rattle.course_text.specs.declared.table.Row.{Row}
use Rattle.course_text.specs.Table.{row_template, operand_count}

-- what stands at a byte of a template: the first word of the course line at `@` (64), its operands at A, B and C, and
-- any other byte itself; an operand that is missing is empty
abbrev pub piece : (words : List (List ℕ)) → ℕ → List ℕ
piece words b = if nat_le 64 b && nat_le b 67 then slice_index_or words (b - 64) [] else b ∷ []

-- the template with the words at its marks
unfoldable pub filled : (words : List (List ℕ)) → (template : List ℕ) → List ℕ
filled words template = flat_map (piece words) template

abbrev pub after_comma : (operand : List ℕ) → List ℕ
after_comma operand = 44 ∷ 32 ∷ operand

-- the plain line of a row of the table; operands that it does not take are at the end, where the plain grammar refuses
-- them
unfoldable pub row_text : Row → (words : List (List ℕ)) → List ℕ
row_text row words = filled words (row_template row) ++ flat_map after_comma (drop (operand_count row + 1) words)
