-- Steps that end at the first fault.
use Rattle.std.specs.Prelude.{Result, Ok, Err}
use Rattle.asm_lines.specs.declared.fault.LineFault.{LineFault}
use Rattle.asm_lines.specs.declared.fault.LineFault.TheVariants as line_faults
use Rattle.assembler.specs.declared.fault.AsmFault.{AsmFault}
use Rattle.assembler.specs.declared.fault.AsmFault.TheVariants.{UnknownWord, Form, Range}

infixl 10 ◌>>=◌
abbrev pub ◌>>=◌ : {A B : Type 0} → Result A AsmFault → (A → Result B AsmFault) → Result B AsmFault
(Ok x) >>= f = f x
(Err e) >>= f = Err e

-- the fault of a text with this fault in a line
abbrev pub fault_of : LineFault → AsmFault
fault_of line_faults.Unknown = UnknownWord
fault_of line_faults.Form = Form
fault_of line_faults.Range = Range

abbrev pub lifted : {A : Type 0} → Result A LineFault → Result A AsmFault
lifted (Ok x) = Ok x
lifted (Err f) = Err (fault_of f)
