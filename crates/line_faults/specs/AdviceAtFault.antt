-- The advice at the fault of a line. For a first word and for operands, it is taken from the line alone. For a place or
-- a target, it is the address or the distance; for a full section, its room; for a label, the first line that has it
-- already, or a label that is written almost the same.
use Rattle.std.specs.Prelude.{◌≡◌, ◌-◌, ◌%◌, ℕ, Bool, List, ◌==◌, if◌then◌else◌, length}
use Rattle.std.specs.Prelude.{IsSome, nat_le, nat_lt, unsigned_abs}
use Rattle.std.specs.Prelude.{Option, Some, None, option_and_then, unwrap_or, slice_get}
use Rattle.assembler.specs.declared.fault.AsmFault.{AsmFault}
use Rattle.assembler.specs.declared.fault.AsmFault.TheVariants.{UnknownWord, Form, Range, LabelTwice, LabelMissing}
use Rattle.assembler.specs.declared.fault.AsmFault.TheVariants.{SectionFull, Memory}
use Rattle.assembler.specs.declared.symbol.Symbol.{Symbol}
use Rattle.assembler.specs.Meaning.{Labels, Place, address, count_of, room_of}
use Rattle.line_faults.specs.Places.{FirstLines}
use Rattle.line_faults.specs.WordAtFault.{target_span, word_within}
use Rattle.word_faults.specs.declared.shape.Wanted.{Wanted}
use Rattle.word_faults.specs.Advice.{Advice, outside_code, unaligned, odd, far, full, stands_on, no_label, near_label}
use Rattle.word_faults.specs.FirstWords.{apart, few_edits, word_advice_in}
use Rattle.word_faults.specs.OperandAdvice.{form_advice}
use Rattle.word_faults.specs.Wants.{Wants, range_of, wants_of}
use Rattle.word_faults.specs.WrongOperands.{LineSpans, spans_of_line}

-- ---- a place

-- how far back or ahead a target may be
abbrev pub reach : Wanted → (is_back : Bool) → ℕ
reach w is_back = unsigned_abs (if is_back then (range_of w).0 else (range_of w).1)

-- the advice for a wrong target: that it is odd if it is within reach, or else how far away it is
abbrev pub far_or_odd : Wanted → (target address : ℕ) → Advice
far_or_odd w target address =
    if nat_le (apart target address) (reach w (nat_lt target address)) then odd else far (apart target address) w

abbrev pub distance_advice : Option Wanted → Option Symbol → (address : ℕ) → Advice
distance_advice (Some w) (Some symbol) address = far_or_odd w symbol.address address
distance_advice w symbol address = odd

-- what the last operand has to be
abbrev pub last_wanted : Option Wants → Option Wanted
last_wanted w = option_and_then (λ w. slice_get w.each (length w.each - 1)) w

abbrev pub target_advice : Labels → LineSpans → (address : ℕ) → Advice
target_advice labels parts address =
    distance_advice (last_wanted (wants_of parts.word.bytes)) (labels (target_span parts).bytes) address

abbrev pub place_advice : Labels → LineSpans → (address : ℕ) → Advice
place_advice labels parts address = if address % 4 == 0 then target_advice labels parts address else unaligned address

-- ---- a label

-- A label that is advised is in the text, and few edits lead to it.
abbrev pub IsNearLabel : Labels → (word : List ℕ) → (name : List ℕ) → Type 0
IsNearLabel labels word name = IsSome (labels name) × IsSome (few_edits word name)

abbrev pub IsLabelAdvice : Labels → (word : List ℕ) → Advice → Type 0
IsLabelAdvice labels word (near_label name) = IsNearLabel labels word name
IsLabelAdvice labels word no_label = Unit {0}
IsLabelAdvice labels word other = ⊥

-- the advice for a label that is there twice: the first line that has it, if there is one
abbrev pub twice_advice : (first : Option ℕ) → Advice
twice_advice (Some line) = stands_on line
twice_advice None = no_label

-- ---- a line

-- This is the advice at a fault of a line with these parts, at its place, after lines with these labels.
abbrev pub IsAdviceIn : Labels → FirstLines → Place → LineSpans → AsmFault → Advice → Type 0
IsAdviceIn labels firsts at parts UnknownWord a = a ≡ word_advice_in parts
IsAdviceIn labels firsts at parts Form a = a ≡ unwrap_or (form_advice parts) outside_code
IsAdviceIn labels firsts at parts Range a = a ≡ unwrap_or (form_advice parts) (place_advice labels parts (address at))
IsAdviceIn labels firsts at parts LabelTwice a =
    a ≡ twice_advice (firsts (word_within labels (address at) parts LabelTwice).bytes)
IsAdviceIn labels firsts at parts LabelMissing a =
    IsLabelAdvice labels (word_within labels (address at) parts LabelMissing).bytes a
IsAdviceIn labels firsts at parts SectionFull a = a ≡ full at.section (room_of at.section) (count_of at.section at)
IsAdviceIn labels firsts at parts Memory a = a ≡ full at.section (room_of at.section) (count_of at.section at)

-- This is the advice at this fault of a line, at its place, after lines with these labels.
unfoldable pub IsAdvised : Labels → FirstLines → Place → (line : List ℕ) → AsmFault → Advice → Type 0
IsAdvised labels firsts at line fault a = IsAdviceIn labels firsts at (spans_of_line line) fault a
