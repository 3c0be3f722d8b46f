-- The faults that are listed of a text.
use Rattle.std.specs.Prelude.{◌≡◌, ◌<◌, ◌≤◌, ℕ, ◌+◌, ◌-◌, List, [], ◌∷◌, length, map, fold, take, position}
use Rattle.std.specs.Prelude.{Option, Some, None, IsSome, Result, Ok, Err, All, slice_get, slice_range}
use Rattle.std.specs.Option.{option_map}
use Rattle.asm_lines.specs.declared.fault.LineFault.{LineFault}
use Rattle.asm_lines.specs.Statements.{Said, line_of}
use Rattle.assembler.specs.declared.fault.AsmFault.{AsmFault}
use Rattle.assembler.specs.declared.fault.AsmFault.TheVariants.{LabelTwice}
use Rattle.assembler.specs.declared.fault.AsmError.{AsmError}
use Rattle.assembler.specs.Meaning.{Labels, Place, Piece, start, address, after, lines_of, labels_of, pieces_of}
use Rattle.line_faults.specs.Faults.{fault_in}
use Rattle.line_faults.specs.word_faults.Advice.{advice_of}
use Rattle.line_faults.specs.AdviceAtFault.{IsAdvised}
use Rattle.line_faults.specs.Places.{FirstLines, has_name}
use Rattle.line_faults.specs.WordAtFault.{word_at_fault}
use Rattle.fault_lists.specs.declared.text_fault.TextFault.{TextFault}

-- ---- the labels of lines

-- the label that a line has, if it has one; a line that cannot be read has none
abbrev pub said_label : Result Said LineFault → Option (List ℕ)
said_label (Ok said) = said.name
said_label (Err f) = None

abbrev pub label_of : (line : List ℕ) → Option (List ℕ)
label_of line = said_label (line_of line)

-- the first line, counted from 1, that has this label
abbrev pub first_line_with : (lines : List (List ℕ)) → (label : List ℕ) → Option ℕ
first_line_with lines label = option_map (λ index. index + 1) (position (λ line. has_name (label_of line) label) lines)

-- ---- one fault

-- the line and the fault of a listed fault
abbrev pub error_of : TextFault → AsmError
error_of t = record { line = t.line; fault = t.fault }

-- The word is in the line at this column, counted in bytes from 1.
pub record IsAt (line : List ℕ) (column : ℕ) (word : List ℕ) : Type 0 where
  pub from_one : 0 < column
  pub within : column - 1 + length word ≤ length line
  pub reads : word ≡ slice_range line (column - 1) (column - 1 + length word)

-- The column and the word are those of this fault of the line at its place, and the advice is right there, after lines
-- with these labels.
pub record IsNamed (labels : Labels) (firsts : FirstLines) (at : Place) (line : List ℕ) (t : TextFault) : Type 0 where
  pub column : t.column ≡ (word_at_fault labels (address at) line t.fault).start + 1
  pub word : t.word.now ≡ (word_at_fault labels (address at) line t.fault).bytes
  pub advised : IsAdvised labels firsts at line t.fault (advice_of t.hint)

-- the place after this many lines
abbrev pub place_after : List (List ℕ) → ℕ → Place
place_after lines count = fold after start (take count lines)

-- The word is in the line with the fault's number, and is the word at fault there. If the fault is that its label is
-- there twice, a line before has the label, and the advice names the first such line.
pub record IsInPlace (labels : Labels) (lines : List (List ℕ)) (t : TextFault) : Type 0 where
  pub line : List ℕ
  pub stands : slice_get lines (t.line - 1) ≡ Some line
  pub at : IsAt line t.column t.word.now
  pub named : IsNamed labels (first_line_with (take (t.line - 1) lines)) (place_after lines (t.line - 1)) line t
  pub twice : t.fault ≡ LabelTwice → IsSome (first_line_with (take (t.line - 1) lines) t.word.now)

-- ---- line by line

-- the fault of the line with this number, if what it places is a fault
abbrev pub error_at : ℕ → Result Piece AsmFault → Option AsmError
error_at number piece = option_map (λ (f : AsmFault). record { line = number; fault = f }) (fault_in piece)

-- the faults of lines, the first of which has this number
abbrev pub errors_from : ℕ → List (Result Piece AsmFault) → List AsmError
errors_from number [] = []
errors_from number (Ok piece ∷ pieces) = errors_from (number + 1) pieces
errors_from number (Err f ∷ pieces) = record { line = number; fault = f } ∷ errors_from (number + 1) pieces

-- the faults of a text in the sense of `assemble`: those that are present on its lines, in their order
abbrev pub errors_of : (text : List ℕ) → List AsmError
errors_of text = errors_from 1 (pieces_of (lines_of text))

-- These are all faults of a text, one for each line that has one, and each names its word at fault.
pub record AreTheFaults (text : List ℕ) (faults : List TextFault) : Type 0 where
  pub errors : map error_of faults ≡ errors_of text
  pub placed : All (IsInPlace (labels_of (lines_of text)) (lines_of text)) faults

-- The same, of lines that place these pieces, with these labels.
pub record AreFaultsOf (labels : Labels) (pieces : List (Result Piece AsmFault)) (lines : List (List ℕ))
    (faults : List TextFault) : Type 0 where
  pub errors : map error_of faults ≡ errors_from 1 pieces
  pub placed : All (IsInPlace labels lines) faults
