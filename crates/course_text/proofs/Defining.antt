-- The constant that a line defines, from its parts.
use Rattle.std.proofs.Common.{◌≡◌, true, false, ◌∷◌, List, ℕ, refl}
use Rattle.std.specs.Prelude.{is_ok}
use Rattle.asm_lines.specs.Statements.{line_of}
use Rattle.course_text.specs.Constants.{constant_in, defines, named_number}
use Rattle.course_text.specs.Parts.{Parts, parts_of, given}
use Rattle.course_text.specs.Table.{course_word}

-- An unread line with these parts, whose first word defines a constant, defines that of its words.
pub constant_of : (line : List ℕ) (p : Parts) → p ≡ parts_of line → defines (course_word p.word) ≡ true → is_ok (line_of line) ≡ false
    → named_number (p.word ∷ given p.rest) ≡ constant_in line
unfolding constant_in
constant_of line p is defining unread = rw (← is, defining, unread) refl
