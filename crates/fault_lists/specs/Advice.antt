-- What would be right instead of a fault, in words.
use Rattle.std.specs.Prelude.{ℕ, ℤ, ◌%◌, ◌^◌, List, ◌++◌, codes}
use Rattle.std.specs.Fmt.{decimal, signed_decimal}
use Rattle.command_io.specs.Digits.{hex_of_word}
use Rattle.asm_lines.specs.declared.statement.Section.{Section}
use Rattle.asm_lines.specs.declared.statement.Section.TheVariants.{Code, Local, Shared}
use Rattle.line_faults.specs.word_faults.declared.hint.Hint.{Hint}
use Rattle.line_faults.specs.word_faults.declared.hint.Hint.TheVariants.{NoWord, NearWord, Instead, NotNeeded}
use Rattle.line_faults.specs.word_faults.declared.hint.Hint.TheVariants.{LabelName, Colon, Operands, Comma, NoOperand}
use Rattle.line_faults.specs.word_faults.declared.hint.Hint.TheVariants.{Wants, Bracket, OutOfRange, UpperBits}
use Rattle.line_faults.specs.word_faults.declared.hint.Hint.TheVariants.{OutsideCode, Unaligned, Odd, Far, StandsOn}
use Rattle.line_faults.specs.word_faults.declared.hint.Hint.TheVariants.{NearLabel, Full}
use Rattle.line_faults.specs.word_faults.declared.shape.Wanted.{Wanted}
use Rattle.line_faults.specs.word_faults.declared.shape.Wanted.TheVariants.{Register, Lower, Upper, Shift}
use Rattle.line_faults.specs.word_faults.declared.shape.Wanted.TheVariants.{Fence, Branch, Jump, Address, Base}
use Rattle.line_faults.specs.word_faults.declared.shape.Wanted.TheVariants.{Word, Byte, Count}
use Rattle.line_faults.specs.word_faults.Wants.{range_of}
use Rattle.fault_lists.specs.Words.{shown}

-- ` from LEAST to MOST`
abbrev pub from_to : ℤ × ℤ → List ℕ
from_to range = codes " from " ++ signed_decimal range.0 ++ codes " to " ++ signed_decimal range.1

-- what an operand should be
abbrev pub wanted_text : Wanted → List ℕ
wanted_text Register = codes "there is no such register; registers are x0 to x31 and names such as a0"
wanted_text Lower = codes "a number" ++ from_to (range_of Lower) ++ codes " or %lo(label) belongs here"
wanted_text Upper = codes "a number" ++ from_to (range_of Upper) ++ codes " or %hi(label) belongs here"
wanted_text Address = codes "an address belongs here, i(rs1)"
wanted_text Base = codes "a register in brackets belongs here, (rs1)"
wanted_text Branch = codes "a label or a number" ++ from_to (range_of Branch) ++ codes " belongs here"
wanted_text Jump = codes "a label or a number" ++ from_to (range_of Jump) ++ codes " belongs here"
wanted_text Word = codes "a label or a number" ++ from_to (range_of Word) ++ codes " belongs here"
wanted_text Shift = codes "a number" ++ from_to (range_of Shift) ++ codes " belongs here"
wanted_text Fence = codes "a number" ++ from_to (range_of Fence) ++ codes " belongs here"
wanted_text Byte = codes "a number" ++ from_to (range_of Byte) ++ codes " belongs here"
wanted_text Count = codes "a number" ++ from_to (range_of Count) ++ codes " belongs here"

abbrev pub section_name : Section → List ℕ
section_name Code = codes ".code"
section_name Local = codes ".local"
section_name Shared = codes ".shared"

abbrev pub unaligned_text : ℕ → List ℕ
unaligned_text address = codes "its address " ++ hex_of_word (address % 2 ^ 32) ++ codes " is not divisible by 4"

-- what is wrong with a label
abbrev pub label_text : Hint → List ℕ
label_text (Far distance wanted) = codes "the label is " ++ decimal distance ++ codes " bytes away, and"
    ++ from_to (range_of wanted) ++ codes " can be reached"
label_text (StandsOn line) = codes "line " ++ decimal line ++ codes " has this label already"
label_text (NearLabel name) = codes "there is no such label; there is " ++ shown name.now
label_text (Full section room taken) =
    section_name section ++ codes " has room for " ++ decimal room ++ codes " bytes, and " ++ decimal taken
    ++ codes " are used before this"
label_text other = codes "there is no such label"

unfoldable pub upper_front : List ℕ
upper_front = codes "this takes 20 bits, 0 to 1048575; the upper 20 of this word are "

-- what is wrong with a word's upper bits, or with the place of a statement
abbrev pub place_text : Hint → List ℕ
place_text (UpperBits upper) = upper_front ++ decimal upper
place_text OutsideCode = codes "instructions belong in .code"
place_text (Unaligned address) = unaligned_text address
place_text Odd = codes "the distance of a target is even"
place_text other = label_text other

-- what would be right in place of a word at fault
abbrev pub advice_text : Hint → List ℕ
advice_text NoWord = codes "there is no such instruction or directive"
advice_text (NearWord name) = codes "there is no such instruction or directive; there is " ++ name.now
advice_text (Instead same) = codes "there is no such word here; " ++ same.now ++ codes " does the same"
advice_text (NotNeeded why) = codes "there is no such word here, and nothing is needed: " ++ why.now
advice_text LabelName = codes "a label's name is a letter or _, and then letters, digits and _"
advice_text Colon = codes "there is no such instruction; a label ends with a colon"
advice_text (Operands form) = codes "the operands are " ++ form.now
advice_text (Comma form) = codes "a comma is missing; the operands are " ++ form.now
advice_text NoOperand = codes "no operand belongs here"
advice_text (Wants wanted) = wanted_text wanted
advice_text Bracket = codes "a bracket is missing; an address is i(rs1) or (rs1)"
advice_text (OutOfRange wanted) = codes "the number is not" ++ from_to (range_of wanted)
advice_text other = place_text other
