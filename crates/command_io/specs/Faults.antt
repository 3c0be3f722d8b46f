-- Faults, and their exit statuses.
use Rattle.std.specs.Prelude.{ℕ}
use Rattle.assembler.specs.declared.fault.AsmError.{AsmError}
use Rattle.assembler.specs.declared.fault.AsmFault.{AsmFault}
use Rattle.assembler.specs.declared.fault.AsmFault.TheVariants as line_fault
use Rattle.elf_image.specs.declared.error.ImageError.{ImageError}
use Rattle.elf_image.specs.declared.error.ImageError.TheVariants as image
use Rattle.trace_file.specs.declared.error.TraceError.{TraceError}
use Rattle.trace_file.specs.declared.error.TraceError.TheVariants as trace
use Rattle.command_io.specs.declared.fault.Fault.{Fault}
use Rattle.command_io.specs.declared.fault.Fault.TheVariants as fault

-- the exit status for a fault: 2 for a refused input, 3 for a failed link, 4 for a limit that was reached, or if the
-- host gave no memory or no thread
abbrev pub status_of_fault : Fault → ℕ
status_of_fault (fault.Line number) = 2
status_of_fault (fault.Text e) = 2
status_of_fault fault.NotUtf8 = 3
status_of_fault (fault.Image image.Link) = 3
status_of_fault (fault.Image refusal) = 2
status_of_fault (fault.Trace trace.Link) = 3
status_of_fault (fault.Trace refusal) = 2
status_of_fault fault.Size = 2
status_of_fault (fault.Stalled place) = 2
status_of_fault fault.Budget = 4
status_of_fault fault.Full = 4
status_of_fault fault.Loan = 4
status_of_fault fault.Start = 4
status_of_fault fault.States = 4
status_of_fault fault.Alone = 4
status_of_fault fault.Link = 3
status_of_fault fault.Memory = 4

-- the fault of a command whose text the assembler refuses
abbrev pub fault_by : AsmError → AsmFault → Fault
fault_by e line_fault.Memory = fault.Memory
fault_by e line_fault.UnknownWord = fault.Text e
fault_by e line_fault.Form = fault.Text e
fault_by e line_fault.Range = fault.Text e
fault_by e line_fault.LabelTwice = fault.Text e
fault_by e line_fault.LabelMissing = fault.Text e
fault_by e line_fault.SectionFull = fault.Text e

abbrev pub fault_of_text : AsmError → Fault
fault_of_text e = fault_by e e.fault

-- the fault of a command that fails to read or write an image
abbrev pub fault_of_image : ImageError → Fault
fault_of_image image.Memory = fault.Memory
fault_of_image refusal = fault.Image refusal

-- the fault of a command that fails to read or write a trace
abbrev pub fault_of_trace : TraceError → Fault
fault_of_trace trace.Memory = fault.Memory
fault_of_trace refusal = fault.Trace refusal
