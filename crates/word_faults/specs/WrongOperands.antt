-- The parts of a line, and its first wrong operand.
use Rattle.std.specs.Prelude.{ℕ, ◌+◌, Bool, List, [], ◌∷◌, ◌==◌, ◌&&◌, ◌||◌, if◌then◌else◌, not, length}
use Rattle.std.specs.Prelude.{find, is_some, is_ok, codes}
use Rattle.std.specs.Prelude.{Option, Some, None, option_and_then, slice_get}
use Rattle.std.specs.List.{list_any}
use Rattle.std.specs.Option.{option_or}
use Rattle.std.specs.Str.{bytes_eq}
use Rattle.asm_lines.specs.Text.{is_blank}
use Rattle.asm_lines.specs.Number.{number_within}
use Rattle.asm_lines.specs.Names.{register_of}
use Rattle.asm_lines.specs.Statements.{is_name}
use Rattle.word_faults.specs.declared.shape.Wanted.{Wanted}
use Rattle.word_faults.specs.declared.shape.Wanted.TheVariants.{Register, Lower, Upper, Branch, Jump, Address, Base}
use Rattle.word_faults.specs.declared.shape.Wanted.TheVariants.{Word}
use Rattle.word_faults.specs.Spans.{Span, span, end_of, trimmed_span, cut_span, bracketed_span, operand_spans}
use Rattle.word_faults.specs.Wants.{Wants, range_of, wants_of, wanted_at}

-- ---- the parts of a line

-- a line's label, its statement's first word, and the text after that
pub record LineSpans : Type 0 where
  pub label : Option Span
  pub word : Span
  pub rest : Span

abbrev pub before_mark : Span → Option (Span × Span) → Span
before_mark s None = s
before_mark s (Some parts) = parts.0

-- the piece before the comment
abbrev pub text_span : List ℕ → Span
text_span line = before_mark (span 0 line) (cut_span (λ b. b == 35) (span 0 line))

-- the label before the first colon, if a name is there, and the text after it
abbrev pub label_spans : Span → Option (Span × Span) → Option Span × Span
label_spans text None = (None, text)
label_spans text (Some parts) = if is_name (trimmed_span parts.0).bytes then (Some (trimmed_span parts.0), parts.1)
    else (None, text)

-- the first word, which ends at the first blank, and the text after it
abbrev pub word_spans : Span → Option (Span × Span) → Span × Span
word_spans statement None = (statement, end_of statement)
word_spans statement (Some parts) = parts

abbrev pub statement_spans : Span → Span × Span
statement_spans statement = word_spans statement (cut_span is_blank statement)

abbrev pub spans_by : Option Span × Span → LineSpans
spans_by cut = record {
  label = cut.0;
  word = (statement_spans (trimmed_span cut.1)).0;
  rest = (statement_spans (trimmed_span cut.1)).1;
}

unfoldable pub spans_of_line : List ℕ → LineSpans
spans_of_line line = spans_by (label_spans (text_span line) (cut_span (λ b. b == 58) (text_span line)))

-- ---- an operand

abbrev pub unless : {A : Type 0} → Bool → A → Option A
unless right x = if right then None else Some x

-- the label of `%hi(label)` or `%lo(label)`
abbrev pub part_named : List ℕ → Option (Span × Span) → Option Span
part_named modifier None = None
part_named modifier (Some parts) = if bytes_eq parts.0.bytes modifier
    && is_name parts.1.bytes then Some parts.1 else None

abbrev pub part_label : List ℕ → Span → Option Span
part_label modifier s = part_named modifier (bracketed_span s)

-- the label that an operand names, in the form that is allowed there
abbrev pub label_within : Wanted → Span → Option Span
label_within Branch s = if is_name s.bytes then Some s else None
label_within Jump s = if is_name s.bytes then Some s else None
label_within Word s = if is_name s.bytes then Some s else None
label_within Lower s = part_label (codes "%lo") s
label_within Upper s = part_label (codes "%hi") s
label_within Address s = option_and_then (λ parts. part_label (codes "%lo") parts.0) (bracketed_span s)
label_within w s = None

-- whether a number in range is there
abbrev pub is_number : Wanted → Span → Bool
is_number w s = is_ok (number_within (range_of w).0 (range_of w).1 s.bytes)

-- the operand, if it is neither a label nor a number that is allowed there
abbrev pub value_fault : Wanted → Span → Option Span
value_fault w s = unless (is_some (label_within w s) || is_number w s) s

abbrev pub register_fault : Span → Option Span
register_fault s = unless (is_some (register_of s.bytes)) s

-- the fault of `i(rs1)`: all of it if it has no brackets, else the number, else the register
abbrev pub address_fault : Span → Option (Span × Span) → Option Span
address_fault s None = Some s
address_fault s (Some parts) = option_or (value_fault Lower parts.0) (register_fault parts.1)

-- the fault of `(rs1)`: all of it if it has no brackets, else the part before them, else the register
abbrev pub base_fault : Span → Option (Span × Span) → Option Span
base_fault s None = Some s
base_fault s (Some parts) = option_or (unless (length parts.0.bytes == 0) parts.0) (register_fault parts.1)

-- what is wrong with an operand
abbrev pub fault_within : Wanted → Span → Option Span
fault_within Register s = register_fault s
fault_within Address s = address_fault s (bracketed_span s)
fault_within Base s = base_fault s (bracketed_span s)
fault_within w s = value_fault w s

-- ---- the operands

-- the first that is found among operands, of which the first has this number
abbrev pub first_in : {A : Type 0} → (Wanted → Span → Option A) → Wants → ℕ → List Span → Option A
first_in found w n [] = None
first_in found w n (s ∷ ss) =
    option_or (option_and_then (λ wanted. found wanted s) (wanted_at w n)) (first_in found w (n + 1) ss)

-- whether an operand has a blank but no bracket: it is two operands without a comma between them
abbrev pub is_parted : Span → Bool
is_parted s = list_any is_blank s.bytes && not (list_any (λ b. b == 40) s.bytes)

-- if the number of operands is wrong: the first too many; else the first in which a comma is missing; else the end
abbrev pub count_fault : ℕ → Span → List Span → Option Span
count_fault count rest operands =
    if length operands == count then None
    else option_or (slice_get operands count) (option_or (find is_parted operands) (Some (end_of (trimmed_span rest))))

-- what is wrong with the operands of a statement that takes some
abbrev pub some_operands_fault : Wants → Span → List Span → Option Span
some_operands_fault w rest operands =
    option_or (if w.is_list then None else count_fault (length w.each) rest operands)
    (first_in fault_within w 0 operands)

-- what is wrong with the operands of a statement that may take none
abbrev pub operands_fault : Wants → Span → Option Span
operands_fault w rest =
    if length w.each == 0 then unless (length (trimmed_span rest).bytes == 0) (trimmed_span rest)
    else some_operands_fault w rest (operand_spans rest)

-- what is wrong with the operands after a line's first word
abbrev pub form_fault : LineSpans → Option Span
form_fault parts = option_and_then (λ w. operands_fault w parts.rest) (wants_of parts.word.bytes)
