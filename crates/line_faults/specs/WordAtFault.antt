-- The word at fault in a line.
--
-- For an unknown first word (A1) and for a statement without room (A6), it is that word. For a form or a number (A2,
-- A3), it is the first wrong operand, or the wrong part of it; the first operand too many; the empty end if one is
-- missing; and if all operands are right, the statement that may not be there, or the target that it cannot reach. For
-- a label (A4, A5), it is the label.
use Rattle.std.specs.Prelude.{ℕ, ◌-◌, ◌%◌, List, ◌==◌, if◌then◌else◌, length, is_some}
use Rattle.std.specs.Prelude.{Option, option_and_then, unwrap_or, slice_get}
use Rattle.assembler.specs.declared.fault.AsmFault.{AsmFault}
use Rattle.assembler.specs.declared.fault.AsmFault.TheVariants.{UnknownWord, Form, Range, LabelTwice, LabelMissing}
use Rattle.assembler.specs.declared.fault.AsmFault.TheVariants.{SectionFull, Memory}
use Rattle.assembler.specs.Meaning.{Labels}
use Rattle.word_faults.specs.declared.shape.Wanted.{Wanted}
use Rattle.word_faults.specs.Spans.{Span, operand_spans}
use Rattle.word_faults.specs.Wants.{wants_of}
use Rattle.word_faults.specs.WrongOperands.{LineSpans, spans_of_line, unless, label_within, first_in, form_fault}

-- ---- labels and targets

-- the label that an operand names, if no line has it
abbrev pub missing_within : Labels → Wanted → Span → Option Span
missing_within labels w s = option_and_then (λ name. unless (is_some (labels name.bytes)) name) (label_within w s)

-- the first label after a line's first word that no line has
abbrev pub label_missing : Labels → LineSpans → Option Span
label_missing labels parts =
    option_and_then (λ w. first_in (missing_within labels) w 0 (operand_spans parts.rest)) (wants_of parts.word.bytes)

-- the target of a branch or a jump
abbrev pub target_span : LineSpans → Span
target_span parts = unwrap_or (slice_get (operand_spans parts.rest) (length (operand_spans parts.rest) - 1)) parts.word

-- ---- a line

abbrev pub word_within : Labels → (address : ℕ) → LineSpans → AsmFault → Span
word_within labels address parts UnknownWord = parts.word
word_within labels address parts Form = unwrap_or (form_fault parts) parts.word
word_within labels address parts Range =
    unwrap_or (form_fault parts) (if address % 4 == 0 then target_span parts else parts.word)
word_within labels address parts LabelTwice = unwrap_or parts.label parts.word
word_within labels address parts LabelMissing = unwrap_or (label_missing labels parts) parts.word
word_within labels address parts SectionFull = parts.word
word_within labels address parts Memory = parts.word

-- the word at this fault of a line, if the section's next byte has this address
unfoldable pub word_at_fault : Labels → (address : ℕ) → (line : List ℕ) → AsmFault → Span
word_at_fault labels address line fault = word_within labels address (spans_of_line line) fault
