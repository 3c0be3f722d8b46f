-- The lines of `ultra check`.
use Rattle.std.specs.Prelude.{◌≡◌, ℕ, zero, suc, List, ◌++◌, length, codes}
use Rattle.std.specs.List.{flat_map}
use Rattle.std.specs.Fmt.{decimal}
use Rattle.command_io.specs.Digits.{line_feed}
use Rattle.assembler.specs.declared.fault.AsmFault.{AsmFault}
use Rattle.assembler.specs.declared.fault.AsmFault.TheVariants.{UnknownWord, Form, Range, LabelTwice, LabelMissing}
use Rattle.assembler.specs.declared.fault.AsmFault.TheVariants.{SectionFull, Memory}
use Rattle.fault_lists.specs.declared.text_fault.TextFault.{TextFault}
use Rattle.fault_lists.specs.Advice.{advice_text}
use Rattle.fault_lists.specs.Words.{after_code}

abbrev pub code_of : AsmFault → List ℕ
code_of UnknownWord = codes "A1"
code_of Form = codes "A2"
code_of Range = codes "A3"
code_of LabelTwice = codes "A4"
code_of LabelMissing = codes "A5"
code_of SectionFull = codes "A6"
code_of Memory = codes "A7"

-- `line N column N: CODE WORD: ADVICE`
unfoldable pub line_of : TextFault → (advice : List ℕ) → List ℕ
line_of t advice =
    codes "line " ++ decimal t.line ++ codes " column " ++ decimal t.column ++ codes ": " ++ code_of t.fault
    ++ after_code t.word.now ++ codes ": "
    ++ advice ++ line_feed

abbrev pub count_line : ℕ → List ℕ
count_line zero = codes "no faults" ++ line_feed
count_line (suc zero) = codes "1 fault" ++ line_feed
count_line (suc (suc n)) = decimal (suc (suc n)) ++ codes " faults" ++ line_feed

-- the line of a fault, with what would be right
abbrev pub fault_line : TextFault → List ℕ
fault_line t = line_of t (advice_text t.hint)

-- The text has a line for each fault, in their order, followed by their number.
abbrev pub IsList : (faults : List TextFault) → (text : List ℕ) → Type 0
IsList faults text = text ≡ flat_map fault_line faults ++ count_line (length faults)
