-- The faults of the command, by what went wrong.
use Rattle.command_io.specs.declared.fault.Fault.{Fault}
use Rattle.command_io.specs.declared.fault.Fault.TheVariants as fault
use Rattle.words_command.specs.declared.read.WordsError.{WordsError}
use Rattle.words_command.specs.declared.read.WordsError.TheVariants as reading
use Rattle.words_command.specs.declared.run.WordsEnd.{WordsEnd}
use Rattle.words_command.specs.declared.run.WordsEnd.TheVariants as running
use Rattle.words_command.specs.declared.print.PrintError.{PrintError}
use Rattle.words_command.specs.declared.print.PrintError.TheVariants as printing

abbrev pub fault_of_reading : WordsError → Fault
fault_of_reading (reading.Line number) = fault.Line number
fault_of_reading reading.Memory = fault.Memory

abbrev pub fault_of_running : WordsEnd → Fault
fault_of_running running.Budget = fault.Budget
fault_of_running running.Memory = fault.Memory

abbrev pub fault_of_printing : PrintError → Fault
fault_of_printing printing.Link = fault.Link
fault_of_printing printing.Memory = fault.Memory
