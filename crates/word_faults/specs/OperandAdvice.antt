-- The advice at the first wrong operand of a line. It is taken from the table of `Wants`: the form that the first word
-- takes, or what the operand has to be. For a number, it is the range.
use Rattle.std.specs.Prelude.{◌/◌, ℕ, ℤ, pos, Bool, List, ◌==◌, ◌||◌, if◌then◌else◌, length, find}
use Rattle.std.specs.Prelude.{is_some, unsigned_abs}
use Rattle.std.specs.Prelude.{Option, Some, None, option_and_then, slice_get, Result, Ok, Err}
use Rattle.std.specs.List.{list_any}
use Rattle.std.specs.Option.{option_or}
use Rattle.asm_lines.specs.declared.fault.LineFault.{LineFault}
use Rattle.asm_lines.specs.declared.fault.LineFault.TheVariants as line_fault
use Rattle.asm_lines.specs.Number.{number_within}
use Rattle.asm_lines.specs.Names.{register_of}
use Rattle.word_faults.specs.declared.shape.Wanted.{Wanted}
use Rattle.word_faults.specs.declared.shape.Wanted.TheVariants.{Register, Lower, Upper, Address, Base}
use Rattle.word_faults.specs.Advice.{Advice, takes, comma, no_operand, stands_here, bracket, out_of_range, upper_bits}
use Rattle.word_faults.specs.Spans.{Span, trimmed_span, bracketed_span, operand_spans}
use Rattle.word_faults.specs.Wants.{Wants, range_of, wants_of}
use Rattle.word_faults.specs.WrongOperands.{LineSpans, unless, label_within, is_number, first_in, is_parted}

-- ---- an operand

-- the advice for a number out of range: the range, or the upper bits if they are wanted and the number is a word
abbrev pub range_advice : Wanted → Result ℤ LineFault → Advice
range_advice Upper (Ok word) = upper_bits (unsigned_abs word / 4096)
range_advice w read = out_of_range w

abbrev pub number_advice : Wanted → Span → Result ℤ LineFault → Advice
number_advice w s (Err line_fault.Range) = range_advice w (number_within (pos 0) (pos 4294967295) s.bytes)
number_advice w s read = stands_here w

-- the advice for an operand that is neither a label nor a number that is allowed there
abbrev pub value_advice : Wanted → Span → Option Advice
value_advice w s =
    unless (is_some (label_within w s)
    || is_number w s) (number_advice w s (number_within (range_of w).0 (range_of w).1 s.bytes))

abbrev pub register_advice : Span → Option Advice
register_advice s = unless (is_some (register_of s.bytes)) (stands_here Register)

-- the advice if one bracket is missing, or both are
abbrev pub brackets_advice : Wanted → Span → Advice
brackets_advice w s = if list_any (λ b. b == 40) s.bytes
    || list_any (λ b. b == 41) s.bytes then bracket else stands_here w

-- `i(rs1)`
abbrev pub address_advice : Span → Option (Span × Span) → Option Advice
address_advice s None = Some (brackets_advice Address s)
address_advice s (Some parts) = option_or (value_advice Lower parts.0) (register_advice parts.1)

-- `(rs1)`
abbrev pub base_advice : Span → Option (Span × Span) → Option Advice
base_advice s None = Some (brackets_advice Base s)
base_advice s (Some parts) = option_or (unless (length parts.0.bytes == 0) (stands_here Base)) (register_advice parts.1)

abbrev pub advice_within : Wanted → Span → Option Advice
advice_within Register s = register_advice s
advice_within Address s = address_advice s (bracketed_span s)
advice_within Base s = base_advice s (bracketed_span s)
advice_within w s = value_advice w s

-- ---- the operands

-- the advice for a wrong number of operands: the form, or that a comma is missing if there are not too many and one is
-- in two parts
abbrev pub form_of : (form : List ℕ) → (too_many parted : Bool) → Advice
form_of form too_many parted = if too_many then takes form else (if parted then comma form else takes form)

abbrev pub count_advice : (form : List ℕ) → (count : ℕ) → List Span → Option Advice
count_advice form count spans =
    unless (length spans == count) (form_of form (is_some (slice_get spans count)) (is_some (find is_parted spans)))

abbrev pub some_operands_advice : Wants → List Span → Option Advice
some_operands_advice w spans =
    option_or (if w.is_list then None else count_advice w.form (length w.each) spans) (first_in advice_within w 0 spans)

abbrev pub operands_advice : Wants → Span → Option Advice
operands_advice w rest =
    if length w.each == 0 then unless (length (trimmed_span rest).bytes == 0) no_operand
    else some_operands_advice w (operand_spans rest)

abbrev pub form_advice : LineSpans → Option Advice
form_advice parts = option_and_then (λ w. operands_advice w parts.rest) (wants_of parts.word.bytes)
