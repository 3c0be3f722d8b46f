-- A line of a course text, taken apart as the plain grammar does it.
use Rattle.std.specs.Prelude.{ℕ, ◌+◌, ◌-◌, ◌==◌, List, [], length, not, Option, Some, None, if◌then◌else◌}
use Rattle.std.specs.List.{position_or_len}
use Rattle.asm_lines.specs.Text.{is_blank, trimmed, cut_at, operands_of}
use Rattle.asm_lines.specs.Statements.{before_comment, label_in}

-- its label, its first word, and the text after that; without a statement the last two are empty
pub record Parts : Type 0 where
  pub name : Option (List ℕ)
  pub word : List ℕ
  pub rest : List ℕ

abbrev pub first_and_rest : (text : List ℕ) → Option (List ℕ × List ℕ) → List ℕ × List ℕ
first_and_rest text None = (text, [])
first_and_rest text (Some parts) = parts

-- the first word of a text without blanks at its ends, and what follows
abbrev pub word_and_rest : List ℕ → List ℕ × List ℕ
word_and_rest text = first_and_rest text (cut_at is_blank text)

abbrev pub without_comment : (line : List ℕ) → List ℕ
without_comment line = before_comment line (cut_at (λ b. b == 35) line)

unfoldable pub parts_of : (line : List ℕ) → Parts
parts_of line =
    let statement = label_in (without_comment line) in
    let words = word_and_rest (trimmed statement.1) in
    record { name = statement.0; word = words.0; rest = words.1 }

-- the operands in a text: none if it is blank
abbrev pub given : (rest : List ℕ) → List (List ℕ)
given rest = if length (trimmed rest) == 0 then [] else operands_of rest

-- the column of the first word after the label, counted in bytes from 1
unfoldable pub first_column : (line : List ℕ) → ℕ
first_column line =
    let rest = (label_in (without_comment line)).1 in
    length (without_comment line) - length rest + position_or_len (λ b. not (is_blank b)) rest + 1
