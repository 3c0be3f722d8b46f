-- How a fault is printed on standard error.
use Rattle.std.specs.Prelude.{◌⊎◌, ℕ, List, [], ◌++◌, Option, codes}
use Rattle.std.specs.Borrow.{Bor}
use Rattle.std.specs.Fmt.{decimal}
use Rattle.std.specs.Io.KnownBytes.{Appends}
use Rattle.std.specs.List.{flat_map}
use Rattle.link.specs.Transfer.{AppendsPart}
use Rattle.assembler.specs.declared.fault.AsmFault.{AsmFault}
use Rattle.assembler.specs.declared.fault.AsmFault.TheVariants as line_fault
use Rattle.elf_image.specs.declared.error.ImageError.{ImageError}
use Rattle.elf_image.specs.declared.error.ImageError.TheVariants as image
use Rattle.trace_file.specs.declared.error.TraceError.{TraceError}
use Rattle.trace_file.specs.declared.error.TraceError.TheVariants as trace
use Rattle.command_io.specs.declared.fault.Fault.{Fault}
use Rattle.command_io.specs.declared.fault.Fault.TheVariants as fault
use Rattle.command_io.specs.Digits.{line_feed}

-- the codes of assembler faults
abbrev pub text_code : AsmFault → List ℕ
text_code line_fault.UnknownWord = codes "A1"
text_code line_fault.Form = codes "A2"
text_code line_fault.Range = codes "A3"
text_code line_fault.LabelTwice = codes "A4"
text_code line_fault.LabelMissing = codes "A5"
text_code line_fault.SectionFull = codes "A6"
text_code line_fault.Memory = codes "A7"

-- the codes of image errors
abbrev pub image_code : ImageError → List ℕ
image_code image.Truncated = codes "I1"
image_code image.NotExecutable = codes "I2"
image_code image.UnsupportedHeader = codes "I3"
image_code image.OutsideInput = codes "I4"
image_code image.OutsideRegions = codes "I5"
image_code image.Overlap = codes "I6"
image_code image.Entry = codes "I7"
image_code image.TooLong = codes "I8"
image_code image.Link = codes "I9"
image_code image.Memory = codes "I10"

-- the codes of trace errors
abbrev pub trace_code : TraceError → List ℕ
trace_code trace.Truncated = codes "X1"
trace_code trace.Header = codes "X2"
trace_code trace.Record = codes "X3"
trace_code trace.Trailing = codes "X4"
trace_code trace.Link = codes "X5"
trace_code trace.Memory = codes "X6"

-- the code of a fault, which names it on standard error
abbrev pub code_of : Fault → List ℕ
code_of (fault.Line number) = codes "V1"
code_of (fault.Text e) = text_code e.fault
code_of fault.NotUtf8 = codes "link"
code_of (fault.Image e) = image_code e
code_of (fault.Trace e) = trace_code e
code_of fault.Size = codes "K1"
code_of (fault.Stalled place) = codes "X7"
code_of fault.Budget = codes "budget"
code_of fault.Full = codes "L2"
code_of fault.Loan = codes "L4"
code_of fault.Start = codes "Start"
code_of fault.States = codes "states"
code_of fault.Alone = codes "alone"
code_of fault.Link = codes "link"
code_of fault.Memory = codes "memory"

-- the place of a fault in its file: a line, counted from 1, or a step, counted from 0
abbrev pub place_of : Fault → List ℕ
place_of (fault.Line number) = codes " line " ++ decimal number
place_of (fault.Text e) = codes " line " ++ decimal e.line
place_of (fault.Stalled place) = codes " step " ++ decimal place
place_of other = []

-- the code of a fault, and its place
unfoldable pub fault_text : Fault → List ℕ
fault_text f = code_of f ++ place_of f

-- the line that reports a fault
unfoldable pub fault_line : Fault → List ℕ
fault_line f = codes "ultra: " ++ fault_text f ++ line_feed

-- All of the text is appended, or, if a write failed, a beginning of it.
abbrev pub AppendsOrPart : (old new : Option (List ℕ)) → (text : List ℕ) → Type 0
AppendsOrPart old new text = Appends old new text ⊎ AppendsPart old new text

-- texts, one after another
abbrev pub joined : List (Bor (List ℕ)) → List ℕ
joined parts = flat_map (λ (part : Bor (List ℕ)). part.now) parts

-- Standard error got the line that reports the fault, or, if a write failed, a beginning of it.
abbrev pub IsReported : (old new : Option (List ℕ)) → Fault → Type 0
IsReported old new f = AppendsOrPart old new (fault_line f)
